use Rattle.interface.proofs.Consequences.ConsequenceLaws.{blocks_stay}
use Rattle.theorems.proofs.blocks_stay.Goals as goal

pub returns : goal.returns
returns c = blocks_stay
