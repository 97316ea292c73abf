use Rattle.interface.proofs.Refusals.CreationRefusals.{creations_refused_exactly}
use Rattle.theorems.proofs.creations_refused_exactly.Goals as goal

pub returns : goal.returns
returns c = creations_refused_exactly
