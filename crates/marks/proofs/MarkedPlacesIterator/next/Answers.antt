-- No place from the first number up to the loop's is marked.
use Prim.Native.Nat.{ℕ, ◌+◌}
use mathlib.Core.Path.{refl, ap}
use native.Mathlib.Omega.{arith}
use Rattle.marks.proofs.MarkedLaws.{rest_found, rest_passed}
use Rattle.marks.proofs.MarkedPlacesIterator.next.Goals as goal

pub returns-then-unmarked-left-clause-steps : goal.returns-then-unmarked-left-clause-steps
returns-then-unmarked-left-clause-steps c =
    let inv = c.loop-number.invariant in
    let found = rest_found c.marks.inside.words _ refl _ inv.later (omega arith) inv.unmarked c.if-unmarked-left.true in
    (inv.same_marks, (rw (c.counted-place.ensures, ← inv.same_from, ← c.marks.view_is) found, ap (λ (n : ℕ). n + 1) c.number.ensures))

pub returns-then-unmarked-left-clause-goes : goal.returns-then-unmarked-left-clause-goes
returns-then-unmarked-left-clause-goes c =
    let inv = c.loop-number.invariant in
    record { on = λ _. (tt, tt, omega (arith, inv.same_from, inv.later)); keeps = tt; rests = λ _. tt }

pub loop-number-preserved : goal.loop-number-preserved
loop-number-preserved c =
    let inv = c.loop-number.invariant in
    record {
      same_marks = inv.same_marks;
      same_from = inv.same_from;
      later = omega (arith, inv.later);
      ends = omega arith;
      unmarked = rest_passed c.marks.inside.words _ refl _ inv.unmarked c.if-unmarked-left.false;
    }

pub returns-clause-steps : goal.returns-clause-steps
returns-clause-steps c =
    let inv = c.loop-number.invariant in
    (inv.same_marks, (record { unmarked = λ p low high. rw (← c.marks.view_is) (inv.unmarked p (omega (arith, inv.same_from)) (omega arith)) }, refl))
