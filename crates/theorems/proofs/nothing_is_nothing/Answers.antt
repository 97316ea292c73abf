use Rattle.interface.proofs.Consequences.LookupLaws.{nothing_is_nothing}
use Rattle.theorems.proofs.nothing_is_nothing.Goals as goal

pub returns : goal.returns
returns c = nothing_is_nothing
