use Rattle.interface.proofs.Consequences.ConsequenceLaws.{stays_sound}
use Rattle.theorems.proofs.stays_sound.Goals as goal

pub returns : goal.returns
returns c = stays_sound
