use Rattle.interface.proofs.Refusals.DispatchRefusals.{dispatch_refused_exactly}
use Rattle.theorems.proofs.dispatch_refused_exactly.Goals as goal

pub returns : goal.returns
returns c = dispatch_refused_exactly
