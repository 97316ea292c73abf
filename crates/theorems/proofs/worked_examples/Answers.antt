use Rattle.interface.proofs.Examples.Computed.{worked_examples}
use Rattle.theorems.proofs.worked_examples.Goals as goal

pub returns : goal.returns
returns c = worked_examples
