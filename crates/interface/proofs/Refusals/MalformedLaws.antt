-- A word is read as malformed exactly where it is no descriptor.
use Prim.Native.Nat.{ℕ, ◌+◌, ◌-◌, ◌%◌, ◌^◌, ◌≤◌}
use mathlib.Core.Path.{◌≡◌, refl, sym, ap, ◌∙◌}
use mathlib.Core.Logic.{◌↔◌, ◌⊎◌, inl, inr, ⊎_elim}
use mathlib.Core.Bool.{Bool, true, false, cond, ◌&&◌, ◌||◌, true≢false, and_comm}
use native.Mathlib.Omega.{arith}
use lib.Dec.{eqb, leb}
use lib.Pow.{pow_mono}
use borrow.Author.Tests.{leb-true, leb-false, le-leb, lt-leb, eqb-true, eqb-false, ne_eqb}
use Rattle.words.specs.Sizes.{object, object_order, page_order}
use Rattle.descriptor.specs.Descriptors.{well_formed}
use Rattle.descriptor.specs.declared.Range.{Range}
use Rattle.descriptor.specs.declared.Reading.TheVariants.{Null, Malformed, Good}
use Rattle.interface.specs.RangeDescriptors.{type_field, order_field, base_field, reading}
use Rattle.interface.specs.Refusals.{MalformedExactly}
use Rattle.interface.proofs.Basics.BoolLaws.{cases, neither, or_none_left, or_none_right}

-- what is read by four tests: malformed exactly where the first fails, and then the second, the third, or the last two
read_so : {A B C D : Type 0} (null fits aligned_so objects ends : Bool) (range : Range) → (null ≡ true → A → ⊥) → (null ≡ false → A) → (fits ≡ false ↔ B) → (aligned_so ≡ false ↔ C) →
    (((objects || ends) ≡ false) ↔ D) →
    (cond null Null (cond (fits && aligned_so && (objects || ends)) (Good range) Malformed) ≡ Malformed) ↔ (A × (B ⊎ (C ⊎ D)))
read_so true fits aligned_so objects ends range n y f a d = (λ e. let z : ◌≡◌ {A = ℕ} 0 1 = cc in absurd (omega arith), λ x. absurd (n refl x.0))
read_so false false aligned_so objects ends range n y f a d = (λ e. (y refl, inl (f.0 refl)), λ x. refl)
read_so false true false objects ends range n y f a d = (λ e. (y refl, inr (inl (a.0 refl))), λ x. refl)
read_so {A} {B} {C} {D} false true true objects ends range n y f a d =
    cases (objects || ends)
    (λ (t : (objects || ends) ≡ true).
    rw t (
      λ e. let z : ◌≡◌ {A = ℕ} 0 1 = cc in absurd (omega arith),
      λ x.
          absurd
          (⊎_elim (λ (b : B). true≢false (f.1 b))
          (⊎_elim (λ (q : C). true≢false (a.1 q)) (λ (q : D). true≢false (rw t at (d.1 q)))) x.1),
    ))
    (λ (h : (objects || ends) ≡ false). rw h (λ e. (y refl, inr (inr (d.0 h))), λ x. refl))

-- a range that ends within a memory or an I/O space has no order above theirs
pub order_inside : (order base : ℕ) → base + 2 ^ order ≤ 2 ^ page_order → order ≤ page_order
order_inside order base inside =
    cases (leb order page_order) (λ (t : leb order page_order ≡ true). leb-true order page_order t)
    (λ (f : leb order page_order ≡ false).
    let above : page_order + 1 ≤ order = omega (arith, leb-false order page_order f) in
    absurd (omega (arith, inside, pow_mono above)))

-- so that every space's order may be tested as the object space's is
one_order : (objects aligned_so : Bool) (order base : ℕ) →
    (leb order (cond objects object_order page_order) && aligned_so && (objects || leb (base + 2 ^ order) (2 ^ cond objects object_order page_order))) ≡
    (leb order object_order && aligned_so && (objects || leb (base + 2 ^ order) (2 ^ page_order)))
one_order true aligned_so order base = refl
one_order false aligned_so order base =
    cases (leb (base + 2 ^ order) (2 ^ page_order))
    (λ (t : leb (base + 2 ^ order) (2 ^ page_order) ≡ true).
    let small : order ≤ page_order = order_inside order base (leb-true (base + 2 ^ order) (2 ^ page_order) t) in
    let larger : order ≤ object_order = omega (arith, small) in
    ap (λ (fits : Bool). fits && aligned_so && leb (base + 2 ^ order) (2 ^ page_order)) (le-leb order page_order small ∙ sym (le-leb order object_order larger)))
    (λ (f : leb (base + 2 ^ order) (2 ^ page_order) ≡ false). rw f (none (leb order page_order) (leb order object_order) aligned_so))
  where
    none : (a b c : Bool) → (a && c && false) ≡ (b && c && false)
    none true true c = refl
    none true false c = and_comm c false
    none false true c = and_comm false c
    none false false c = refl

pub malformed_exactly : MalformedExactly
unfolding reading well_formed
malformed_exactly word =
    let type = type_field word in
    let order = order_field word in
    let base = base_field word in
    let end = 2 ^ page_order in
    rw (one_order (eqb (type - 1) object) (eqb (base % 2 ^ order) 0) order base)
    (read_so (eqb type 0) (leb order object_order) (eqb (base % 2 ^ order) 0) (eqb (type - 1) object) (leb (base + 2 ^ order) end) _
    (λ t n. n (eqb-true type 0 t)) (eqb-false type 0) (leb-false order object_order, lt-leb order object_order) (eqb-false (base % 2 ^ order) 0, ne_eqb (base % 2 ^ order) 0) (
      λ h. (
        λ (three : type ≡ 3). eqb-false (type - 1) object (or_none_left (eqb (type - 1) object) (leb (base + 2 ^ order) end) h) (omega arith),
        leb-false (base + 2 ^ order) end (or_none_right (eqb (type - 1) object) (leb (base + 2 ^ order) end) h),
      ),
      λ x.
          neither (eqb (type - 1) object) (leb (base + 2 ^ order) end) (ne_eqb (type - 1) object (λ (two : type - 1 ≡ object). x.0 (omega arith))) (lt-leb (base + 2 ^ order) end x.1),
    ))
