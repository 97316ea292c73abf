use Rattle.interface.proofs.Consequences.CreatedLaws.{created_exactly}
use Rattle.theorems.proofs.created_exactly.Goals as goal

pub returns : goal.returns
returns c = created_exactly
