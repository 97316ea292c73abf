use Rattle.interface.proofs.Examples.Computed.{layout_computed}
use Rattle.theorems.proofs.layout_examples.Goals as goal

pub returns : goal.returns
returns c = layout_computed
