-- Marking the places that a test holds of, in turn.
use Prim.Native.Nat.{ℕ, ◌+◌, ◌≤◌}
use mathlib.Core.Path.{◌≡◌, sym, ◌∙◌}
use mathlib.Core.Bool.{Bool, true, false, ◌&&◌}
use mathlib.Core.List.{List}
use native.Mathlib.Omega.{arith}
use lib.Dec.{eqb, ltb}
use borrow.Author.Tests.{eqb-true, eqb-false, lt-ltb, le-ltb, ltb-true, ltb-false}
use Rattle.words.specs.Sizes.{places}
use Rattle.interface.proofs.Basics.BoolLaws.{cases}
use Rattle.marks.specs.PlaceBits.{bit_at, SetIf}
use Rattle.descent.specs.Walks.{Marked}
use Rattle.repair.specs.Mending.{Unmarked}

module _ (test : ℕ → Bool) where
  -- the marks are those of the places below a number
  abbrev pub MarkedBelow : ℕ → List ℕ → Type 0
  MarkedBelow at marks = (q : ℕ) → bit_at marks q ≡ (ltb q at && test q)

  pub none_marked : {marks : List ℕ} → Unmarked marks → MarkedBelow 0 marks
  none_marked blank q = blank.none q ∙ (rw (le-ltb q 0 (omega arith)))

  pub marked_more : {marks after : List ℕ} {place : ℕ} (at : ℕ) (asked : Bool) → MarkedBelow at marks → place ≡ at → asked ≡ test at → SetIf asked marks place after →
      MarkedBelow (at + 1) after
  marked_more {marks} {after} {place} at asked so_far here e set q =
      set.bits q ∙
      cases (eqb q place)
      (λ (t : eqb q place ≡ true).
      let is_place = eqb-true q place t in
      let same : q ≡ at = omega arith in
      let before = le-ltb q at (omega arith) in
      let now = lt-ltb q (at + 1) (omega arith) in
      rw (t, so_far q, before, now, same, e) (cases (test at) (λ (h : test at ≡ true). rw h) (λ (f : test at ≡ false). rw f)))
      (λ (f : eqb q place ≡ false).
      let other = eqb-false q place f in
      let same : ltb q at ≡ ltb q (at + 1) =
      cases (ltb q at) (λ (t : ltb q at ≡ true). t ∙ sym (lt-ltb q (at + 1) (omega (arith, ltb-true q at t))))
      (λ (g : ltb q at ≡ false). let past = ltb-false q at g in g ∙ sym (le-ltb q (at + 1) (omega arith))) in
      rw (f, so_far q, same) (cases asked (λ (h : asked ≡ true). rw h) (λ (g : asked ≡ false). rw g)))

  pub marked_all : {marks : List ℕ} (at : ℕ) → places ≤ at → MarkedBelow at marks → Marked test marks
  marked_all at end so_far = record { told = λ p l. so_far p ∙ (rw (lt-ltb p at (omega arith))) }
