use Rattle.interface.proofs.Consequences.FilledLaws.{adds_no_permission}
use Rattle.theorems.proofs.adds_no_permission.Goals as goal

pub returns : goal.returns
returns c = adds_no_permission
