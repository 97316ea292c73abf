use Rattle.interface.proofs.Consequences.WithoutReasonsLaws.{nothing_else_changes}
use Rattle.theorems.proofs.nothing_else_changes.Goals as goal

pub returns : goal.returns
returns c = nothing_else_changes
