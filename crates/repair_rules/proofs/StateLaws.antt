-- What repair does to a state: which places stay, that the parent of a place that stays does, and that what is left is sound where records and domain 0 are.
use Prim.Native.Nat.{ℕ, zero, suc, ◌+◌, ◌-◌, ◌≤◌, ◌<◌}
use mathlib.Core.Path.{◌≡◌, refl, sym, ap, ◌∙◌}
use mathlib.Core.Logic.{◌⊎◌, inl, inr, ⊎_elim}
use mathlib.Core.Bool.{true, false, ◌||◌}
use native.Mathlib.Omega.{arith}
use lib.Dec.{eqb, ltb}
use borrow.Author.Tests.{ltb-true, ltb-false, eqb-true, eqb-false, eq-eqb, ne_eqb}
use Rattle.words.specs.Sizes.{stride, domain_of, places, greatest_depth}
use Rattle.interface.specs.Places.{Cap, State, live, nothing}
use Rattle.interface.specs.Boot.{hypervisor, boot}
use Rattle.interface.specs.Damage.{same_cap, fixed_record, fixed_place, interrupt_rule, unnamed_rule, used_first, pds_below, pd_rule, has_pd, is_ec, ec_rule, sc_rule, pt_rule, null_place, live_place, shallow}
use Rattle.interface.specs.DamageReport.{record_keeps, place_keeps}
use Rattle.interface.proofs.Basics.BoolLaws.{cases, not_both, and_left, and_right, both, or_left, or_right, either_way, each_of_four, asked_anyway}
use Rattle.interface.proofs.Sound.Soundness.{OfRecords, Sound, sound_facts}
use Rattle.interface.proofs.Sound.PlaceFacts.{null_cap, null_test, boot_cap_lem, depth_small, ChildOf, live_facts, live_test}
use Rattle.interface.proofs.Sound.SoundPlaces.{same_reduced, still_live}
use Rattle.interface.proofs.History.BootLaws.{boot_sound}
use Rattle.place_rules.specs.PlaceKeeping as Keeping
use Rattle.place_pass.proofs.BootPlaceLaws.{hypervisor_kept}
use Rattle.repair_rules.specs.Repair.{whole_within, whole, stays, repaired_cap, repaired_state}
use Rattle.repair_rules.specs.RepairFacts.{RecordsKeep, HypervisorKeeps, HypervisorMends}
use Rattle.repair_rules.proofs.ChainLaws.{above, within_live, within_shallow, within_rest, within_none, within_end, within_next, within_more, parent_above}

-- which places stay, and what they show then
module _ (s : State) (p : ℕ) where
  pub stays_cap : stays s p ≡ true → repaired_cap s p ≡ s.caps p
  unfolding repaired_cap
  stays_cap h = rw h

  pub gone_cap : stays s p ≡ false → repaired_cap s p ≡ nothing
  unfolding repaired_cap
  gone_cap h = rw h

  pub stays_live : stays s p ≡ true → live (s.caps p) ≡ true
  unfolding stays
  stays_live h = and_left (live (s.caps p)) (eqb (domain_of p) hypervisor || whole s p) h

  stays_why : stays s p ≡ true → (eqb (domain_of p) hypervisor || whole s p) ≡ true
  unfolding stays
  stays_why h = and_right (live (s.caps p)) (eqb (domain_of p) hypervisor || whole s p) h

  pub stays_whole : live (s.caps p) ≡ true → whole s p ≡ true → stays s p ≡ true
  unfolding stays
  stays_whole alive h =
      both (live (s.caps p)) (eqb (domain_of p) hypervisor || whole s p) alive (or_right (eqb (domain_of p) hypervisor) (whole s p) h)

  pub stays_there : live (s.caps p) ≡ true → domain_of p ≡ hypervisor → stays s p ≡ true
  unfolding stays
  stays_there alive e =
      both (live (s.caps p)) (eqb (domain_of p) hypervisor || whole s p) alive
      (or_left (eqb (domain_of p) hypervisor) (whole s p) (eq-eqb (domain_of p) hypervisor e))

  pub stays_elsewhere : stays s p ≡ true → (domain_of p ≡ hypervisor → ⊥) → whole s p ≡ true
  stays_elsewhere h other = rw (ne_eqb (domain_of p) hypervisor other) at (stays_why h)

  pub dead_gone : live (s.caps p) ≡ false → stays s p ≡ false
  unfolding stays
  dead_gone d = rw d

  pub broken_gone : (domain_of p ≡ hypervisor → ⊥) → whole s p ≡ false → stays s p ≡ false
  unfolding stays
  broken_gone other broken =
      cases (live (s.caps p)) (λ (t : live (s.caps p) ≡ true). rw (t, ne_eqb (domain_of p) hypervisor other, broken))
      (λ (f : live (s.caps p) ≡ false). rw f)

  -- a place that is live afterwards stayed
  pub live_stays : live (repaired_cap s p) ≡ stays s p
  live_stays =
      cases (stays s p) (λ (t : stays s p ≡ true). rw (stays_cap t) (stays_live t) ∙ sym t)
      (λ (f : stays s p ≡ false). rw (gone_cap f) (sym f))

  pub left_null : live (repaired_cap s p) ≡ false → repaired_cap s p ≡ nothing
  left_null d = gone_cap (sym live_stays ∙ d)

-- where a chain is whole within no more places than there are depths, the parent stays, and so the place keeps its rule
module _ (s : State) where
  -- the state after repair
  abbrev pub left : State
  left = repaired_state s

  chain_stays : (n p : ℕ) → n ≤ greatest_depth + 1 → whole_within n s p ≡ true → live (s.caps p) ≡ true → stays s p ≡ true
  unfolding whole
  chain_stays n p few h alive = stays_whole s p alive (within_more s n (greatest_depth + 1) p few h)

  kept_parent : (n p q : ℕ) → n ≤ greatest_depth + 1 → whole_within n s p ≡ true → ChildOf s p q → stays s q ≡ true
  kept_parent zero p q few h c = absurd (within_none s p h)
  kept_parent (suc n) p q few h c =
      let same : above s p ≡ q = omega (arith, c.linked) in
      chain_stays n q (omega arith) (rw same at (within_rest s n p h (λ z. omega (arith, c.linked)))) c.alive

  kept_live : (n p : ℕ) → n ≤ greatest_depth + 1 → whole_within n s p ≡ true → live (s.caps p) ≡ true → live_place left p ≡ true
  kept_live zero p few h alive = absurd (within_none s p h)
  kept_live (suc n) p few h alive =
      let here = stays_cap s p (chain_stays (suc n) p few h alive) in
      live_test left p
      (λ a.
      still_live s (repaired_cap s) p (live_facts s p (within_live s n p h) alive) (same_reduced (s.caps p) (repaired_cap s p) here)
      (λ q c.
      let there = stays_cap s q (kept_parent (suc n) p q few h c) in
      record { alive = rw there c.alive; reduced = same_reduced (s.caps q) (repaired_cap s q) there; included = rw (here, there) c.included }))

  kept_flat : (p : ℕ) → repaired_cap s p ≡ s.caps p → shallow s p ≡ true → shallow left p ≡ true
  unfolding shallow
  kept_flat p same h = rw same h

  -- a whole chain stays whole
  chain_kept : (n p : ℕ) → n ≤ greatest_depth + 1 → whole_within n s p ≡ true → live (s.caps p) ≡ true → whole_within n left p ≡ true
  chain_kept zero p few h alive = absurd (within_none s p h)
  chain_kept (suc n) p few h alive =
      let here = stays_cap s p (chain_stays (suc n) p few h alive) in
      let lives = kept_live (suc n) p few h alive in
      let flat = kept_flat p here (within_shallow s n p h) in
      let same : (left.caps p).parent ≡ (s.caps p).parent = ap (λ (c : Cap). c.parent) here in
      cases (eqb (s.caps p).parent 0)
      (λ (t : eqb (s.caps p).parent 0 ≡ true). within_end left n p lives flat (same ∙ eqb-true (s.caps p).parent 0 t))
      (λ (f : eqb (s.caps p).parent 0 ≡ false).
      let some = eqb-false (s.caps p).parent 0 f in
      let c = parent_above s p (live_facts s p (within_live s n p h) alive).lineage some in
      let up : above left p ≡ above s p = ap (λ (k : ℕ). k - 1) same in
      within_next left n p lives flat (rw up (chain_kept n (above s p) (omega arith) (within_rest s n p h some) c.alive)))

  -- repairing once more changes nothing
  pub once_cap : (p : ℕ) → repaired_cap left p ≡ repaired_cap s p
  unfolding whole
  once_cap p =
      cases (stays s p)
      (λ (t : stays s p ≡ true).
      let alive : live (left.caps p) ≡ true = rw (stays_cap s p t) (stays_live s p t) in
      stays_cap left p
      (cases (eqb (domain_of p) hypervisor)
      (λ (e : eqb (domain_of p) hypervisor ≡ true). stays_there left p alive (eqb-true (domain_of p) hypervisor e))
      (λ (f : eqb (domain_of p) hypervisor ≡ false).
      stays_whole left p alive
      (chain_kept (greatest_depth + 1) p (omega arith) (stays_elsewhere s p t (eqb-false (domain_of p) hypervisor f)) (stays_live s p t)))))
      (λ (f : stays s p ≡ false).
      let dead : live (left.caps p) ≡ false = rw (gone_cap s p f) in
      gone_cap left p (dead_gone left p dead) ∙ sym (gone_cap s p f))

-- in a sound state every chain is whole, so every place stays or is null
module _ (s : State) (k : Sound s) where
  sound_whole : (n limit p : ℕ) → p < places → live (s.caps p) ≡ true → (s.caps p).depth ≡ n → n < limit → whole_within limit s p ≡ true
  sound_whole n zero p small alive deep l = absurd (omega arith)
  sound_whole zero (suc more) p small alive deep l =
      let facts = live_facts s p (k.lives p small) alive in
      cases (eqb (s.caps p).parent 0)
      (λ (t : eqb (s.caps p).parent 0 ≡ true). within_end s more p (k.lives p small) (k.shallows p small) (eqb-true (s.caps p).parent 0 t))
      (λ (f : eqb (s.caps p).parent 0 ≡ false).
      let c = parent_above s p facts.lineage (eqb-false (s.caps p).parent 0 f) in absurd (omega (arith, c.deeper)))
  sound_whole (suc n) (suc more) p small alive deep l =
      let facts = live_facts s p (k.lives p small) alive in
      cases (eqb (s.caps p).parent 0)
      (λ (t : eqb (s.caps p).parent 0 ≡ true). within_end s more p (k.lives p small) (k.shallows p small) (eqb-true (s.caps p).parent 0 t))
      (λ (f : eqb (s.caps p).parent 0 ≡ false).
      let c = parent_above s p facts.lineage (eqb-false (s.caps p).parent 0 f) in
      within_next s more p (k.lives p small) (k.shallows p small)
      (sound_whole n more (above s p) c.is_place c.alive (omega (arith, c.deeper)) (omega arith)))

  pub sound_same : (p : ℕ) → p < places → repaired_cap s p ≡ s.caps p
  unfolding whole
  sound_same p small =
      cases (live (s.caps p))
      (λ (t : live (s.caps p) ≡ true).
      stays_cap s p
      (stays_whole s p t
      (sound_whole (s.caps p).depth (greatest_depth + 1) p small t refl (omega (arith, depth_small s p (k.shallows p small))))))
      (λ (f : live (s.caps p) ≡ false). gone_cap s p (dead_gone s p f) ∙ sym (null_cap s p (k.nulls p small) f))

-- two places that are the same show the same
pub cap_same : (a b : Cap) → a ≡ b → same_cap a b ≡ true
cap_same a b e =
    rw (e, eq-eqb b.resource b.resource refl, eq-eqb b.permissions b.permissions refl, eq-eqb b.parent b.parent refl, eq-eqb b.depth b.depth refl)

at_boot : Sound boot
at_boot = sound_facts boot boot_sound

boot_null : (p : ℕ) → p < places → (boot.caps p).permissions ≡ 0 → boot.caps p ≡ nothing
boot_null p small z = null_cap boot p (at_boot.nulls p small) (rw z)

-- domain 0 after repair, where it needs no more than null places emptied, and back
module _ (s : State) where
  mends_same : HypervisorMends s → (p : ℕ) → p < stride → repaired_cap s p ≡ boot.caps p
  mends_same mends p l =
      let there : domain_of p ≡ hypervisor = omega arith in
      cases (live (s.caps p))
      (λ (t : live (s.caps p) ≡ true).
      stays_cap s p (stays_there s p t there) ∙
      ⊎_elim (λ (e : s.caps p ≡ boot.caps p). e)
      (λ (z : ((s.caps p).permissions ≡ 0) × ((boot.caps p).permissions ≡ 0)).
      let dead : live (s.caps p) ≡ false = rw z.0 in not_both (live (s.caps p)) t dead) (mends.as_boot p l))
      (λ (f : live (s.caps p) ≡ false).
      gone_cap s p (dead_gone s p f) ∙
      sym
      (⊎_elim (λ (e : s.caps p ≡ boot.caps p). null_cap boot p (at_boot.nulls p (omega arith)) (rw e at f))
      (λ (z : ((s.caps p).permissions ≡ 0) × ((boot.caps p).permissions ≡ 0)). boot_null p (omega arith) z.1) (mends.as_boot p l)))

  pub keeps_mends : HypervisorKeeps s → HypervisorMends s
  unfolding place_keeps
  keeps_mends keeps = record { as_boot = λ p l. inl (boot_cap_lem s p (keeps.places_keep 2 p l) (omega arith)) }

  same_mends : (p : ℕ) → p < stride → repaired_cap s p ≡ boot.caps p →
      (s.caps p ≡ boot.caps p) ⊎ (((s.caps p).permissions ≡ 0) × ((boot.caps p).permissions ≡ 0))
  same_mends p l same =
      cases (live (s.caps p))
      (λ (t : live (s.caps p) ≡ true). inl (sym (stays_cap s p (stays_there s p t (omega arith))) ∙ same))
      (λ (f : live (s.caps p) ≡ false).
      inr (
        omega (arith, ltb-false 0 (s.caps p).permissions f),
        ap (λ (c : Cap). c.permissions) (sym same ∙ gone_cap s p (dead_gone s p f)),
      ))

-- the records' rules, by their numbers
module _ (s : State) where
  pub by_number : OfRecords (fixed_record s) → OfRecords (interrupt_rule s) → OfRecords (unnamed_rule s) → OfRecords (used_first s) → OfRecords (pd_rule s) →
      OfRecords (ec_rule s) → OfRecords (sc_rule s) → OfRecords (pt_rule s) → RecordsKeep s
  unfolding record_keeps
  by_number fixed interrupts unnamed used pds ecs scs pts =
      record {
        records_keep =
            λ rule r l.
            either_way (λ b. b ≡ true) (eqb rule 2) _ _ (fixed r l)
            (either_way (λ b. b ≡ true) (eqb rule 3) _ _ (interrupts r l)
            (either_way (λ b. b ≡ true) (eqb rule 4) _ _ (unnamed r l)
            (either_way (λ b. b ≡ true) (eqb rule 5) _ _ (used r l)
            (either_way (λ b. b ≡ true) (eqb rule 6) _ _ (pds r l)
            (either_way (λ b. b ≡ true) (eqb rule 7) _ _ (ecs r l)
            (either_way (λ b. b ≡ true) (eqb rule 8) _ _ (scs r l)
            (either_way (λ b. b ≡ true) (eqb rule 9) _ _ (pts r l) refl)))))));
      }

  pub records_by_number : Sound (repaired_state s) → RecordsKeep s
  unfolding fixed_record interrupt_rule unnamed_rule used_first pds_below pd_rule has_pd is_ec ec_rule sc_rule pt_rule
  records_by_number k =
      by_number k.fixed_records k.interrupts k.unnameds k.used_firsts k.pds k.ecs k.scs k.pts

-- what is left is sound where the records keep their rules and domain 0 mends, and back
module _ (s : State) (keeps : RecordsKeep s) (mends : HypervisorMends s) where
  left_fixed : OfRecords (fixed_record (repaired_state s))
  unfolding record_keeps fixed_record
  left_fixed = keeps.records_keep 2

  left_interrupts : OfRecords (interrupt_rule (repaired_state s))
  unfolding record_keeps interrupt_rule
  left_interrupts = keeps.records_keep 3

  there_same : (p : ℕ) → p < stride → fixed_place (repaired_state s) p ≡ true
  unfolding fixed_place
  there_same p l =
      asked_anyway (eqb (domain_of p) hypervisor) (same_cap (repaired_cap s p) (boot.caps p))
      (cap_same (repaired_cap s p) (boot.caps p) (mends_same s mends p l))

  there_kept : (p : ℕ) → p < stride → Keeping.place_keeps (repaired_state s) p ≡ true
  there_kept p l = hypervisor_kept (repaired_state s) left_fixed left_interrupts p l (there_same p l)

  there_parts : (p : ℕ) → p < stride → (live_place (repaired_state s) p ≡ true) × (shallow (repaired_state s) p ≡ true)
  unfolding Keeping.place_keeps
  there_parts p l =
      let r = repaired_state s in
      let parts = each_of_four (fixed_place r p) (null_place r p) (live_place r p) (shallow r p) (there_kept p l) in (parts.2, parts.3)

  gone_flat : (p : ℕ) → stays s p ≡ false → shallow (repaired_state s) p ≡ true
  unfolding shallow
  gone_flat p g = rw (gone_cap s p g)

  left_lives : (p : ℕ) → live_place (repaired_state s) p ≡ true
  unfolding whole
  left_lives p =
      cases (ltb p stride) (λ (t : ltb p stride ≡ true). (there_parts p (ltb-true p stride t)).0)
      (λ (f : ltb p stride ≡ false).
      let past = ltb-false p stride f in
      cases (stays s p)
      (λ (t : stays s p ≡ true). kept_live s (greatest_depth + 1) p (omega arith) (stays_elsewhere s p t (λ e. omega arith)) (stays_live s p t))
      (λ (g : stays s p ≡ false).
      live_test (repaired_state s) p (λ (a : live (repaired_cap s p) ≡ true). not_both (stays s p) (sym (live_stays s p) ∙ a) g)))

  left_shallow : (p : ℕ) → shallow (repaired_state s) p ≡ true
  unfolding whole
  left_shallow p =
      cases (ltb p stride) (λ (t : ltb p stride ≡ true). (there_parts p (ltb-true p stride t)).1)
      (λ (f : ltb p stride ≡ false).
      let past = ltb-false p stride f in
      cases (stays s p)
      (λ (t : stays s p ≡ true). kept_flat s p (stays_cap s p t) (within_shallow s greatest_depth p (stays_elsewhere s p t (λ e. omega arith))))
      (λ (g : stays s p ≡ false). gone_flat p g))

  fixed_left : (p : ℕ) → fixed_place (repaired_state s) p ≡ true
  unfolding fixed_place
  fixed_left p =
      cases (ltb p stride) (λ (t : ltb p stride ≡ true). there_same p (ltb-true p stride t))
      (λ (f : ltb p stride ≡ false).
      let past = ltb-false p stride f in
      rw (ne_eqb (domain_of p) hypervisor (λ e. omega arith)))

  pub left_sound : Sound (repaired_state s)
  unfolding record_keeps fixed_record interrupt_rule unnamed_rule used_first pds_below pd_rule has_pd is_ec ec_rule sc_rule pt_rule
  left_sound =
      record {
        fixed_records = left_fixed;
        fixed_places = λ p l. fixed_left p;
        interrupts = left_interrupts;
        unnameds = keeps.records_keep 4;
        used_firsts = keeps.records_keep 5;
        pds = keeps.records_keep 6;
        ecs = keeps.records_keep 7;
        scs = keeps.records_keep 8;
        pts = keeps.records_keep 9;
        nulls = λ p l. null_test (repaired_state s) p (left_null s p);
        lives = λ p l. left_lives p;
        shallows = λ p l. left_shallow p;
      }

pub sound_mends : (s : State) → Sound (repaired_state s) → HypervisorMends s
sound_mends s k =
    record { as_boot = λ p l. same_mends s p l (boot_cap_lem (repaired_state s) p (k.fixed_places p (omega arith)) (omega arith)) }
