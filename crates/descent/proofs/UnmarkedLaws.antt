-- Places that are not below a range: those of another space, since a walk stays in one space, and those of a word that has no parents.
use Prim.Native.Nat.{ℕ, ◌+◌, ◌-◌, ◌≤◌, ◌<◌}
use mathlib.Core.Path.{◌≡◌, sym, ◌∙◌}
use mathlib.Core.Bool.{Bool, true, false}
use native.Mathlib.Omega.{arith}
use lib.Dec.{eqb, leb, ltb}
use borrow.Author.Tests.{leb-true, ltb-true, eqb-true}
use Rattle.words.specs.Sizes.{space_of, places}
use Rattle.interface.specs.Basics.{any}
use Rattle.interface.specs.Places.{Cap}
use Rattle.interface.specs.Effects.{below}
use Rattle.interface.proofs.Basics.BoolLaws.{cases, and_left, and_right}
use Rattle.interface.proofs.Basics.BelowLaws.{all_below_at}
use Rattle.interface.proofs.Sound.CutSound.{ancestors_none, below_space}
use Rattle.marks.specs.PlaceBits.{word_bits}
use Rattle.descent.specs.Walks.{Linked, InSpace, parentless_from}

module _ (caps : ℕ → Cap) (linked : Linked caps) {first size : ℕ} (range : InSpace first size) where
  pub not_below : (p : ℕ) → p < places → (space_of p ≡ space_of first → ⊥) → below caps first size p ≡ false
  not_below p l other =
      cases (below caps first size p)
      (λ (t : below caps first size p ≡ true).
      absurd
      (other
      (below_space caps first size (space_of first)
      (λ q a.
      range.one_space q (leb-true first q (and_left (leb first q) (ltb q (first + size)) a))
      (ltb-true q (first + size) (and_right (leb first q) (ltb q (first + size)) a)))
      (λ r q m e. (linked.parent_place r q m e, linked.parent_space r q m e, omega (arith, linked.parent_depth r q m e))) p l t)))
      (λ (f : below caps first size p ≡ false). f)

-- nor is a place of a word whose places have no parents
pub parentless_below : (caps : ℕ → Cap) (first size from : ℕ) {parentless : Bool} → parentless ≡ parentless_from caps from word_bits → parentless ≡ true →
    (p : ℕ) → from ≤ p → p < from + word_bits → below caps first size p ≡ false
unfolding parentless_from below any
parentless_below caps first size from is_parentless all p low high =
    let i = p - from in
    let there : from + i ≡ p = omega arith in
    let root = eqb-true (caps (from + i)).parent 0 (all_below_at word_bits (λ (j : ℕ). eqb (caps (from + j)).parent 0) (sym is_parentless ∙ all) i (omega arith)) in
    rw (ancestors_none caps p (rw there at root))
