-- The bytes are copied to the front, and the rest is as it was.
use mathlib.Core.Path.{refl}
use native.Mathlib.Nat.{zero-add}
use Rattle.turns.proofs.move_to_front.Goals as goal

pub returns : goal.returns
returns c = record { size = refl; moved = simp zero-add at c.copy_within.ensures.after }
