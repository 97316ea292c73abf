-- The descriptors by their places.
use Rattle.hip_format.proofs.DescriptorLaws as laws
use Rattle.hip_format.proofs.theorems.descriptors_stand.Goals as goal

pub returns : goal.returns
returns c = record {
  cpu = laws.cpu_stands;
  no_cpu_lem = laws.no_cpu_lem;
  memory = laws.memory_stands;
  no_memory_lem = laws.no_memory_lem;
  none_refused = laws.none_refused;
}
