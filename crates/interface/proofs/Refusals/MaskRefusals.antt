-- REVOKE's check of the mask, in the fields of the descriptor's word.
use Prim.Native.Nat.{ℕ, zero, suc, ◌+◌, ◌-◌, ◌%◌, ◌^◌, ◌<◌}
use mathlib.Core.Path.{◌≡◌, refl, sym, ◌∙◌}
use mathlib.Core.Logic.{◌↔◌, ◌⊎◌, inl, inr, ⊎_elim}
use mathlib.Core.Bool.{true, false, false≢true}
use native.Mathlib.Omega.{arith}
use lib.Dec.{eqb}
use borrow.Author.Tests.{eqb-true, eqb-false, eq-eqb}
use Rattle.descriptor.specs.declared.Reading.TheVariants.{Malformed, Good}
use Rattle.descriptor.specs.Descriptors.{range_of}
use Rattle.descriptor.proofs.DescriptorLaws.{reading_null, reading_malformed, reading_good}
use Rattle.interface.specs.RangeDescriptors.{type_field, mask_field, order_field, base_field, well_formed, reading}
use Rattle.interface.specs.Revoke.{mask_is_outside}
use Rattle.interface.specs.Refusals.{MaskOutside}
use Rattle.interface.proofs.Basics.BoolLaws.{cases}
use Rattle.interface.proofs.Sound.GreatestLaws.{width, masked_low}

-- the remainder of a mask by the width of a type's space, type by type
by_type : (type mask : ℕ) → type < 4 → (type ≡ 0 → ⊥) → mask < 32 →
    (mask % 2 ^ width (type - 1) ≡ 0) ↔ (((type ≡ 1) × (mask % 8 ≡ 0)) ⊎ (((type ≡ 2) × (mask % 2 ≡ 0)) ⊎ ((type ≡ 3) × (mask ≡ 0))))
by_type zero mask t some m = absurd (some refl)
by_type (suc zero) mask t some m = (
  λ e. inl (refl, e),
  ⊎_elim (λ (x : (1 ≡ 1) × (mask % 8 ≡ 0)). x.1)
      (⊎_elim (λ (x : (1 ≡ 2) × (mask % 2 ≡ 0)). absurd (omega (arith, x.0))) (λ (x : (1 ≡ 3) × (mask ≡ 0)). absurd (omega (arith, x.0)))),
)
by_type (suc (suc zero)) mask t some m = (
  λ e. inr (inl (refl, e)),
  ⊎_elim (λ (x : (2 ≡ 1) × (mask % 8 ≡ 0)). absurd (omega (arith, x.0)))
      (⊎_elim (λ (x : (2 ≡ 2) × (mask % 2 ≡ 0)). x.1) (λ (x : (2 ≡ 3) × (mask ≡ 0)). absurd (omega (arith, x.0)))),
)
by_type (suc (suc (suc zero))) mask t some m = (
  λ e. inr (inr (refl, omega arith)),
  ⊎_elim (λ (x : (3 ≡ 1) × (mask % 8 ≡ 0)). absurd (omega (arith, x.0)))
      (⊎_elim (λ (x : (3 ≡ 2) × (mask % 2 ≡ 0)). absurd (omega (arith, x.0))) (λ (x : (3 ≡ 3) × (mask ≡ 0)). omega (arith, x.1))),
)
by_type (suc (suc (suc (suc type)))) mask t some m = absurd (omega arith)

-- of a word that is not malformed, the check and the cause are one
module _ (word : ℕ) (formed : reading word ≡ Malformed → ⊥) where
  is_range : (type_field word ≡ 0 → ⊥) → reading word ≡ Good (range_of (type_field word - 1) word)
  is_range some =
      let space = type_field word - 1 in
      let type : type_field word ≡ space + 1 = omega arith in
      cases (well_formed space (order_field word) (base_field word))
      (λ (w : well_formed space (order_field word) (base_field word) ≡ true).
      reading_good word space (mask_field word) (order_field word) (base_field word) type refl refl refl w)
      (λ (w : well_formed space (order_field word) (base_field word) ≡ false).
      absurd (formed (reading_malformed word space (mask_field word) (order_field word) (base_field word) type refl refl refl w)))

  abbrev low : ℕ
  low = mask_field word % 2 ^ width (type_field word - 1)

  is_low : (type_field word ≡ 0 → ⊥) → mask_is_outside (reading word) ≡ eqb low 0
  is_low some = rw (is_range some, masked_low (type_field word - 1) (mask_field word))

  fields : (type_field word ≡ 0 → ⊥) → (low ≡ 0) ↔ MaskOutside word
  fields some = by_type (type_field word) (mask_field word) (omega arith) some (omega arith)

  pub outside_fields : mask_is_outside (reading word) ≡ true → MaskOutside word
  outside_fields h =
      cases (eqb (type_field word) 0)
      (λ (z : eqb (type_field word) 0 ≡ true). absurd (false≢true (rw (reading_null word (eqb-true (type_field word) 0 z)) at h)))
      (λ (z : eqb (type_field word) 0 ≡ false).
      let some = eqb-false (type_field word) 0 z in
      (fields some).0 (eqb-true low 0 (sym (is_low some) ∙ h)))

  pub fields_outside : MaskOutside word → mask_is_outside (reading word) ≡ true
  fields_outside outside =
      let some : type_field word ≡ 0 → ⊥ =
      λ z.
      ⊎_elim (λ (x : (type_field word ≡ 1) × (mask_field word % 8 ≡ 0)). omega (arith, x.0))
      (⊎_elim (λ (x : (type_field word ≡ 2) × (mask_field word % 2 ≡ 0)). omega (arith, x.0))
      (λ (x : (type_field word ≡ 3) × (mask_field word ≡ 0)). omega (arith, x.0))) outside
      in
      is_low some ∙ eq-eqb low 0 ((fields some).1 outside)
