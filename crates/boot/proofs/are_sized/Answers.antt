-- The lengths tested are the definition's.
use mathlib.Core.Path.{refl}
use Rattle.interface.specs.Places.{sized}
use Rattle.boot.proofs.are_sized.Goals as goal

pub returns : goal.returns
unfolding sized
returns c = refl
