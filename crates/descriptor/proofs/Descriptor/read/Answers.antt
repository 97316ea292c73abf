-- The numbers that the code takes from the word are its fields, and it tests of them what the definition tests.
use Prim.Native.Nat.{ℕ, ◌-◌, ◌/◌, ◌%◌, ◌^◌, ◌<◌}
use mathlib.Core.Path.{◌≡◌, refl, sym, ◌∙◌}
use mathlib.Core.Bool.{Bool, true, false}
use native.Mathlib.Omega.{arith}
use Rattle.words.specs.Sizes.{object}
use Rattle.descriptor.specs.declared.Reading.TheVariants.{Malformed, Good}
use Rattle.descriptor.specs.Descriptors.{type_field, mask_field, order_field, well_formed, wrapped, reading}
use Rattle.descriptor.proofs.DescriptorLaws.{base_high, reading_null, reading_malformed, reading_good, wrapped_object, wrapped_other}
use Rattle.descriptor.proofs.Descriptor.read.Goals as goal

-- what a word that is not null is read as, by the answer of the call that tests it
module _ (word : ℕ) (fits : word < 2 ^ 32) (some : word % 4 ≡ 0 → ⊥) (formed : Bool)
    (called : formed ≡ well_formed (word % 4 - 1) (order_field word) (word / 4096)) where
  malformed : formed ≡ false → Malformed ≡ reading word
  malformed h =
      sym (reading_malformed word (word % 4 - 1) (mask_field word) (order_field word) (word / 4096) (omega arith) refl refl (base_high word fits)
      (sym called ∙ h))

  good : (base : ℕ) → formed ≡ true → wrapped (word % 4 - 1) (word / 4096) ≡ base →
      Good (record { space = word % 4 - 1; base = base; order = order_field word; mask = mask_field word }) ≡ reading word
  good base h b =
      rw (← b)
      (sym (reading_good word (word % 4 - 1) (mask_field word) (order_field word) (word / 4096) (omega arith) refl refl (base_high word fits)
      (sym called ∙ h)))

pub returns-then-word-eq0 : goal.returns-then-word-eq0
returns-then-word-eq0 c = let none : type_field c.args.self.0 ≡ 0 = omega arith in rw reading_null

pub returns-then-not-is_range : goal.returns-then-not-is_range
returns-then-not-is_range c = malformed c.args.self.0 (omega arith) (omega arith) _ c.is_range.ensures c.if-not-is_range.true

pub returns-then-space-eq-OBJECT : goal.returns-then-space-eq-OBJECT
returns-then-space-eq-OBJECT c =
    let word = c.args.self.0 in
    let there : word % 4 - 1 ≡ object = omega arith in
    good word (omega arith) (omega arith) _ c.is_range.ensures _ c.if-not-is_range.false (wrapped_object _ _ there)

pub returns : goal.returns
returns c =
    let word = c.args.self.0 in
    let elsewhere : word % 4 - 1 ≡ object → ⊥ = omega arith in
    good word (omega arith) (omega arith) _ c.is_range.ensures _ c.if-not-is_range.false (wrapped_other _ _ elsewhere)
