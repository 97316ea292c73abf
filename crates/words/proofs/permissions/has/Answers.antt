-- The bit that is shifted down to place 0 is the field that it alone makes.
use native.Mathlib.Nat.{add-sub_cancel_left}
use Rattle.words.proofs.permissions.has.Goals as goal

pub returns : goal.returns
returns c = rw (add-sub_cancel_left c.args.bit 1)
