-- No place from the first number up to the loop's is marked.
use Prim.Native.Nat.{ℕ, ◌-◌, ◌<◌, ◌≤◌}
use mathlib.Core.Path.{◌≡◌}
use mathlib.Core.Bool.{false}
use Rattle.words.specs.Sizes.{places}
use Rattle.marks.specs.PlaceBits.{bit_at}
use Rattle.marks.proofs.MarkedPlacesIterator.next.Given as goal

abbrev pub invariant-loop-number : goal.invariant-loop-number
invariant-loop-number l = record {
  same_marks : l.self.marks.now ≡ l.initial.self.marks.now;
  same_from : l.self.from ≡ l.initial.self.from;
  later : l.self.from ≤ l.number;
  ends : l.number ≤ places;
  unmarked : (p : ℕ) → l.self.from ≤ p → p < l.number → bit_at l.marks-inside.words p ≡ false;
}

abbrev pub decreases-loop-number : goal.decreases-loop-number
decreases-loop-number l = places - l.number
