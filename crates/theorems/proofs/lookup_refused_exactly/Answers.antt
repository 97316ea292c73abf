use Rattle.interface.proofs.Refusals.OtherRefusals.{lookup_refused_exactly}
use Rattle.theorems.proofs.lookup_refused_exactly.Goals as goal

pub returns : goal.returns
returns c = lookup_refused_exactly
