-- The word of the place's number is written with one more bit, or nothing is.
use native.Mathlib.Omega.{arith}
use Rattle.marks.proofs.PlaceBitLaws.{set_one, set_none}
use Rattle.marks.proofs.Marks.set.Goals as goal

pub returns-then-asked : goal.returns-then-asked
returns-then-asked c =
    rw (c.number-number.ensures, ← c.self.view_is) (set_one c.self.inside.words _ c.if-asked.true (omega (arith, c.requires, c.self.invariant)))

pub returns-else-asked : goal.returns-else-asked
returns-else-asked c = set_none _ _ c.if-asked.false
