use Rattle.interface.proofs.Consequences.RevokedLaws.{revokes_exactly}
use Rattle.theorems.proofs.revokes_exactly.Goals as goal

pub returns : goal.returns
returns c = revokes_exactly
