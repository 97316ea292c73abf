-- Faults: a rule by its number, and the first fault rule by rule.
use Rattle.std.specs.Prelude.{Some, None}
use Prim.Native.Nat.{ℕ, zero, suc, ◌+◌, ◌-◌, ◌≤◌, ◌<◌}
use mathlib.Core.Path.{◌≡◌, refl, sym, ◌∙◌}
use mathlib.Core.Bool.{Bool, true, false, not}
use mathlib.Core.List.{List, ◌∷◌}
use native.Mathlib.Omega.{arith}
use lib.Dec.{eqb}
use lib.ListN.{get_or, drop}
use lib.Seq.{drop-cons}
use borrow.Author.Tests.{eqb-true, lt-ltb, le-ltb, not-true}
use Rattle.words.specs.Sizes.{places, records}
use Rattle.reply.specs.declared.Fault.TheVariants.{Lengths, AtRecord, AtPlace}
use Rattle.interface.specs.Basics.{all_below}
use Rattle.interface.specs.Places.{State, Tables, sized, shown}
use Rattle.interface.specs.Damage.{Rule, of_records, fixed_record, interrupt_rule, unnamed_rule, used_first, pds_below, pd_rule, has_pd, is_ec, ec_rule, sc_rule, pt_rule, rules_of_damage, first_fault, fault}
use Rattle.interface.proofs.Basics.BelowLaws.{all_below_at}
use Rattle.interface.proofs.Basics.LoopLaws.{answered_yes}
use Rattle.record_rules.specs.RecordKeeping.{records_in}
use Rattle.soundness.specs.RuleNumbers.{lowest_failing, first_rule, last_rule, rule_of}

module _ (rule : ℕ) where
  -- a rule that has been told by its number
  pub record_rule : (n : ℕ) (s : State) (r : ℕ) (kept : Bool) → rule ≡ n → kept ≡ (rule_of n).record_keeps_lem s r → kept ≡ (rule_of rule).record_keeps_lem s r
  record_rule n s r kept e h = rw e h

  pub place_rule : (n : ℕ) (s : State) (p : ℕ) (kept : Bool) → rule ≡ n → kept ≡ (rule_of n).place_keeps_lem s p → kept ≡ (rule_of rule).place_keeps_lem s p
  place_rule n s p kept e h = rw e h

  -- a number's distance from a lower one
  back : (n : ℕ) → n ≤ rule → rule - n + n ≡ rule
  back n l = omega arith

  below : (n m : ℕ) → n ≤ rule → rule < m + n → rule - n < m
  below n m l b = omega arith

  -- a number from one on that is not that one comes after it
  past : (n : ℕ) → n ≤ rule → (rule ≡ n → ⊥) → n < rule
  past n l d = omega arith

  -- the rules from 10 on say nothing of records, and those from 3 to 9 nothing of places
  pub no_record_rule : (s : State) (r : ℕ) → first_rule ≤ rule → rule ≤ last_rule → (rule ≡ 2 → ⊥) → (rule ≡ 3 → ⊥) → (rule ≡ 4 → ⊥) → (rule ≡ 5 → ⊥) → (rule ≡ 6 → ⊥) →
      (rule ≡ 7 → ⊥) → (rule ≡ 8 → ⊥) → (rule ≡ 9 → ⊥) → true ≡ (rule_of rule).record_keeps_lem s r
  unfolding all_below
  no_record_rule s r g l a b d e f h i j =
      let from : 10 ≤ rule = past 9 (past 8 (past 7 (past 6 (past 5 (past 4 (past 3 (past 2 g a) b) d) e) f) h) i) j in
      sym (rw (back 10 from) at (all_below_at 3 (λ k. (rule_of (k + 10)).record_keeps_lem s r) refl (rule - 10) (below 10 3 from (omega (arith, l)))))

  pub no_place_rule : (s : State) (p : ℕ) → first_rule ≤ rule → rule ≤ last_rule → (rule ≡ 2 → ⊥) → (rule ≡ 10 → ⊥) → (rule ≡ 11 → ⊥) → (rule ≡ 12 → ⊥) →
      true ≡ (rule_of rule).place_keeps_lem s p
  unfolding all_below
  no_place_rule s p g l a b d e =
      let from : 3 ≤ rule = past 2 g a in
      let upto : rule < 10 = omega arith in
      sym (rw (back 3 from) at (all_below_at 7 (λ k. (rule_of (k + 3)).place_keeps_lem s p) refl (rule - 3) (below 3 7 from upto)))

-- what the capabilities are does not matter to the lowest record that breaks a rule
same_lowest : (n : ℕ) (tables : Tables) (default : Rule) → n < 11 →
    lowest_failing records ((get_or rules_of_damage n default).record_keeps_lem (records_in tables.objects)) ≡
    lowest_failing records ((get_or rules_of_damage n default).record_keeps_lem (shown tables))
unfolding fixed_record interrupt_rule unnamed_rule used_first pds_below pd_rule has_pd is_ec ec_rule sc_rule pt_rule
same_lowest zero tables default l = refl
same_lowest (suc zero) tables default l = refl
same_lowest (suc (suc zero)) tables default l = refl
same_lowest (suc (suc (suc zero))) tables default l = refl
same_lowest (suc (suc (suc (suc zero)))) tables default l = refl
same_lowest (suc (suc (suc (suc (suc zero))))) tables default l = refl
same_lowest (suc (suc (suc (suc (suc (suc zero)))))) tables default l = refl
same_lowest (suc (suc (suc (suc (suc (suc (suc zero))))))) tables default l = refl
same_lowest (suc (suc (suc (suc (suc (suc (suc (suc zero)))))))) tables default l = refl
same_lowest (suc (suc (suc (suc (suc (suc (suc (suc (suc zero))))))))) tables default l = refl
same_lowest (suc (suc (suc (suc (suc (suc (suc (suc (suc (suc zero)))))))))) tables default l = refl
same_lowest (suc (suc (suc (suc (suc (suc (suc (suc (suc (suc (suc n))))))))))) tables default l = absurd (omega arith)

-- the rules from a number on
abbrev pub rules_from : ℕ → List Rule
rules_from rule = drop (rule - first_rule) rules_of_damage

-- the rules stand in the order of their numbers
numbered : (rule : ℕ) → first_rule ≤ rule → rule ≤ last_rule → (rule_of rule).number ≡ rule
unfolding all_below
numbered rule g l =
    rw (back rule 2 g) at (eqb-true (rule_of (rule - 2 + 2)).number (rule - 2 + 2) (all_below_at 11 (λ i. eqb (rule_of (i + 2)).number (i + 2)) refl (rule - 2) (below rule 2 11 g (omega arith))))

rules_next : (rule : ℕ) → first_rule ≤ rule → rule ≤ last_rule → rules_from rule ≡ rule_of rule ∷ rules_from (rule + 1)
rules_next rule g l =
    let next : rule + 1 - 2 ≡ suc (rule - 2) = omega arith in
    rw next (drop-cons rules_of_damage (rule - 2) (of_records rule (λ s r. true)) (omega arith))

module _ (tables : Tables) where
  -- wrong lengths, and right ones
  pub fault_lengths : (answer : Bool) → answer ≡ sized tables → not answer ≡ true → Some Lengths ≡ fault tables
  unfolding fault
  fault_lengths answer e f = let wrong : sized tables ≡ false = sym e ∙ not-true answer f in rw wrong

  pub fault_starts : (answer : Bool) → answer ≡ sized tables → not answer ≡ false → fault tables ≡ first_fault (shown tables) (rules_from first_rule)
  unfolding fault
  fault_starts answer e f = rw (answered_yes answer (sized tables) e f)

  -- the rules all kept
  pub fault_none : (rule : ℕ) → last_rule < rule → rule ≤ last_rule + 1 → fault tables ≡ first_fault (shown tables) (rules_from rule) → None ≡ fault tables
  unfolding first_fault
  fault_none rule g l h = let last : rule ≡ last_rule + 1 = omega arith in sym (rw last at h)

  -- one rule: a record that breaks it, or a place, or neither
  module _ (rule r : ℕ) (g : first_rule ≤ rule) (l : rule ≤ last_rule) (lowest_r : r ≡ lowest_failing records ((rule_of rule).record_keeps_lem (records_in tables.objects)))
      (so_far : fault tables ≡ first_fault (shown tables) (rules_from rule)) where
    here : fault tables ≡ first_fault (shown tables) (rule_of rule ∷ rules_from (rule + 1))
    here = rw (rules_next rule g l) at so_far

    record_there : lowest_failing records ((rule_of rule).record_keeps_lem (shown tables)) ≡ r
    record_there = sym (lowest_r ∙ same_lowest (rule - 2) tables (of_records rule (λ s q. true)) (omega arith))

    pub fault_record : r < records → Some (AtRecord rule r) ≡ fault tables
    unfolding first_fault lowest_failing
    fault_record b = rw (here, record_there, lt-ltb r records b, numbered rule g l)

    module _ (p : ℕ) (none : records ≤ r) (lowest_p : p ≡ lowest_failing places ((rule_of rule).place_keeps_lem (shown tables))) where
      pub fault_place : p < places → Some (AtPlace rule p) ≡ fault tables
      unfolding first_fault lowest_failing
      fault_place b = rw (here, record_there, le-ltb r records none, ← lowest_p, lt-ltb p places b, numbered rule g l)

      pub fault_next : places ≤ p → fault tables ≡ first_fault (shown tables) (rules_from (rule + 1))
      unfolding first_fault lowest_failing
      fault_next b = here ∙ rw (record_there, le-ltb r records none, ← lowest_p, le-ltb p places b)
