use Rattle.interface.proofs.Deliveries.InitialRangeLaws.{delivers_range}
use Rattle.theorems.proofs.delivers_range.Goals as goal

pub returns : goal.returns
returns c = delivers_range
