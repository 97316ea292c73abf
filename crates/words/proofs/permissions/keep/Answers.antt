-- The code is the definition.
use mathlib.Core.Path.{refl}
use Rattle.words.proofs.permissions.keep.Goals as goal

pub returns : goal.returns
returns c = refl
