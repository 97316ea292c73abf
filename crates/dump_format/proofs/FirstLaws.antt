-- The first fault is the only one: a record or place where the first broken rule is first broken is the one that the report names.
use Rattle.std.specs.Prelude.{Option, Some, None}
use Prim.Native.Nat.{ℕ, ◌<◌}
use mathlib.Core.Path.{◌≡◌, refl, ◌∙◌}
use mathlib.Core.Bool.{true, false}
use native.Mathlib.Omega.{arith}
use lib.Dec.{eqb, ltb}
use borrow.Author.Tests.{ltb-true, ltb-false}
use Rattle.reply.specs.declared.Fault.{Fault}
use Rattle.reply.specs.declared.Fault.TheVariants.{Lengths, AtRecord, AtPlace}
use Rattle.interface.specs.Places.{State, Tables, shown}
use Rattle.interface.specs.Damage.{fault}
use Rattle.interface.specs.DamageReport.{record_keeps, place_keeps, FirstAtRecord, FirstAtPlace}
use Rattle.interface.proofs.Basics.BoolLaws.{cases, not_both, either_way}
use Rattle.interface.proofs.Sound.Soundness.{Sound, sound_facts}
use Rattle.interface.proofs.Tables.TableLaws.{sound_shown}
use Rattle.interface.proofs.Consequences.DamageReportLaws.{damage_named}
use Rattle.repair_rules.specs.RepairFacts.{Long}
use Rattle.repair_rules.proofs.StateLaws.{by_number}

-- one number is below another, above it, or it
ordered : {C : Type 0} (m n : ℕ) → (m < n → C) → (n < m → C) → (m ≡ n → C) → C
ordered m n below above same =
    cases (ltb m n) (λ (t : ltb m n ≡ true). below (ltb-true m n t))
    (λ (f : ltb m n ≡ false).
    let past = ltb-false m n f in
    cases (ltb n m) (λ (t : ltb n m ≡ true). above (ltb-true n m t)) (λ (g : ltb n m ≡ false). same (omega (arith, ltb-false n m g))))

-- where no rule is broken, every record and every place keeps the rule of every number
places_by_number : (s : State) → Sound s → (rule p : ℕ) → p < 3072 → place_keeps s rule p ≡ true
unfolding place_keeps
places_by_number s k rule p l =
    either_way (λ b. b ≡ true) (eqb rule 2) _ _ (k.fixed_places p l)
    (either_way (λ b. b ≡ true) (eqb rule 10) _ _ (k.nulls p l)
    (either_way (λ b. b ≡ true) (eqb rule 11) _ _ (k.lives p l)
    (either_way (λ b. b ≡ true) (eqb rule 12) _ _ (k.shallows p l) refl)))

module _ (s : State) (rule : ℕ) where
  -- two records where a rule is first broken, two places, and a record and a place
  record_once : (r : ℕ) → FirstAtRecord s rule r → (other q : ℕ) → FirstAtRecord s other q → Some (AtRecord other q) ≡ Some (AtRecord rule r)
  record_once r h other q g =
      ordered other rule (λ l. not_both (record_keeps s other q) ((h.earlier_intact other l).of_records q g.is_record) g.breaks)
      (λ l. not_both (record_keeps s rule r) ((g.earlier_intact rule l).of_records r h.is_record) h.breaks)
      (λ (e : other ≡ rule).
      ordered q r (λ l. not_both (record_keeps s rule q) (h.lower_keep q l) (rw e at g.breaks))
      (λ l. not_both (record_keeps s rule r) (rw e at (g.lower_keep r l)) h.breaks) (λ (same : q ≡ r). rw (e, same)))

  place_once : (p : ℕ) → FirstAtPlace s rule p → (other q : ℕ) → FirstAtPlace s other q → Some (AtPlace other q) ≡ Some (AtPlace rule p)
  place_once p h other q g =
      ordered other rule (λ l. not_both (place_keeps s other q) ((h.earlier_intact other l).of_places q g.is_place) g.breaks)
      (λ l. not_both (place_keeps s rule p) ((g.earlier_intact rule l).of_places p h.is_place) h.breaks)
      (λ (e : other ≡ rule).
      ordered q p (λ l. not_both (place_keeps s rule q) (h.lower_keep q l) (rw e at g.breaks))
      (λ l. not_both (place_keeps s rule p) (rw e at (g.lower_keep p l)) h.breaks) (λ (same : q ≡ p). rw (e, same)))

  not_both_kinds : {C : Type 0} (r : ℕ) → FirstAtRecord s rule r → (other p : ℕ) → FirstAtPlace s other p → C
  not_both_kinds r h other p g =
      ordered other rule (λ l. not_both (place_keeps s other p) ((h.earlier_intact other l).of_places p g.is_place) g.breaks)
      (λ l. not_both (record_keeps s rule r) ((g.earlier_intact rule l).of_records r h.is_record) h.breaks)
      (λ (e : other ≡ rule). not_both (record_keeps s rule r) (rw e at (g.records_keep r h.is_record)) h.breaks)

module _ (t : Tables) (long : Long t) where
  never_lengths : {C : Type 0} → fault t ≡ Some Lengths → C
  never_lengths e = absurd ((damage_named.lengths t).0 e (long.places_long, long.objects_long))

  at_sound : fault t ≡ None → Sound (shown t)
  at_sound e = sound_facts (shown t) (sound_shown t ((damage_named.no_fault t).0 e))

  pub first_record : (rule r : ℕ) → FirstAtRecord (shown t) rule r → fault t ≡ Some (AtRecord rule r)
  first_record rule r h = go (fault t) refl
    where
      go : (found : Option Fault) → fault t ≡ found → fault t ≡ Some (AtRecord rule r)
      go None e =
          let k = at_sound e in
          let kept = by_number (shown t) k.fixed_records k.interrupts k.unnameds k.used_firsts k.pds k.ecs k.scs k.pts in
          not_both (record_keeps (shown t) rule r) (kept.records_keep rule r h.is_record) h.breaks
      go (Some Lengths) e = never_lengths e
      go (Some (AtRecord other q)) e = e ∙ record_once (shown t) rule r h other q (damage_named.at_record t other q e)
      go (Some (AtPlace other p)) e = not_both_kinds (shown t) rule r h other p (damage_named.at_place t other p e)

  pub first_place : (rule p : ℕ) → FirstAtPlace (shown t) rule p → fault t ≡ Some (AtPlace rule p)
  first_place rule p h = go (fault t) refl
    where
      go : (found : Option Fault) → fault t ≡ found → fault t ≡ Some (AtPlace rule p)
      go None e = not_both (place_keeps (shown t) rule p) (places_by_number (shown t) (at_sound e) rule p h.is_place) h.breaks
      go (Some Lengths) e = never_lengths e
      go (Some (AtRecord other q)) e = not_both_kinds (shown t) other q (damage_named.at_record t other q e) rule p h
      go (Some (AtPlace other q)) e = e ∙ place_once (shown t) rule p h other q (damage_named.at_place t other q e)
