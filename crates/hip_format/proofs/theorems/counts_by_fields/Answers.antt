-- The counts follow from the layout.
use Rattle.hip_format.proofs.BackLaws as laws
use Rattle.hip_format.proofs.theorems.counts_by_fields.Goals as goal

pub returns : goal.returns
returns c = record { of_cpus = laws.cpus_counted; of_memories = laws.memories_counted }
