use Rattle.interface.proofs.Consequences.RevokedLaws.{nothing_lost}
use Rattle.theorems.proofs.nothing_lost.Goals as goal

pub returns : goal.returns
returns c = nothing_lost
