use Rattle.interface.proofs.Consequences.ConsequenceLaws.{damaged_exactly}
use Rattle.theorems.proofs.damaged_exactly.Goals as goal

pub returns : goal.returns
returns c = damaged_exactly
