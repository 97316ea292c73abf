use Rattle.interface.proofs.Refusals.OtherRefusals.{revoke_refused_exactly}
use Rattle.theorems.proofs.revoke_refused_exactly.Goals as goal

pub returns : goal.returns
returns c = revoke_refused_exactly
