use Rattle.interface.proofs.Consequences.DamageReportLaws.{damage_named}
use Rattle.theorems.proofs.damage_named.Goals as goal

pub returns : goal.returns
returns c = damage_named
