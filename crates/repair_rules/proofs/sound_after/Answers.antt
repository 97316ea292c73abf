-- The repaired tables are sound if the records and domain 0 were.
use Rattle.repair_rules.proofs.TablesLaws.{sound_after}
use Rattle.repair_rules.proofs.sound_after.Goals as goal

pub returns : goal.returns
returns c = sound_after
