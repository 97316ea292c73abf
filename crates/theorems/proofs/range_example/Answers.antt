use Rattle.interface.proofs.Examples.Computed.{computed_range}
use Rattle.theorems.proofs.range_example.Goals as goal

pub returns : goal.returns
returns c = computed_range
