-- The rules of a record taken together: they are a matter of the records alone, and a record that keeps them keeps each.
use Prim.Native.Nat.{ℕ}
use mathlib.Core.Path.{◌≡◌, refl}
use mathlib.Core.Bool.{true, ◌&&◌}
use Rattle.interface.specs.Places.{Cap, State}
use Rattle.interface.specs.Damage.{fixed_record, interrupt_rule, unnamed_rule, used_first, has_pd, is_ec, ec_rule, sc_rule, pt_rule}
use Rattle.interface.proofs.Basics.BoolLaws.{and_left, and_right, each_of_four}
use Rattle.record_rules.specs.RecordKeeping.{record_keeps}

-- what the capabilities are does not matter to the rules of records
pub caps_apart : (caps others : ℕ → Cap) (objects : ℕ → ℕ → ℕ) (r : ℕ) →
    record_keeps (record { caps = caps; objects = objects }) r ≡ record_keeps (record { caps = others; objects = objects }) r
unfolding fixed_record interrupt_rule unnamed_rule used_first has_pd is_ec ec_rule sc_rule pt_rule record_keeps
caps_apart caps others objects r = refl

module _ (s : State) where
  -- a record that keeps the rules together keeps each
  pub record_parts : (r : ℕ) → record_keeps s r ≡ true →
      ((fixed_record s r ≡ true) × (interrupt_rule s r ≡ true) × (unnamed_rule s r ≡ true) × (used_first s r ≡ true)) ×
      (ec_rule s r ≡ true) × (sc_rule s r ≡ true) × (pt_rule s r ≡ true)
  unfolding record_keeps
  record_parts r h =
      let first = fixed_record s r && interrupt_rule s r && unnamed_rule s r && used_first s r in
      let six = and_left (first && ec_rule s r && sc_rule s r) (pt_rule s r) h in
      let five = and_left (first && ec_rule s r) (sc_rule s r) six in (
        each_of_four (fixed_record s r) (interrupt_rule s r) (unnamed_rule s r) (used_first s r) (and_left first (ec_rule s r) five),
        and_right first (ec_rule s r) five,
        and_right (first && ec_rule s r) (sc_rule s r) six,
        and_right (first && ec_rule s r && sc_rule s r) (pt_rule s r) h,
      )
