-- A state that differs from a sound one at one record: it is sound where that record keeps the rules.
use Prim.Native.Nat.{ℕ, ◌-◌, ◌≤◌, ◌<◌}
use mathlib.Core.Path.{◌≡◌, refl, ap}
use mathlib.Core.Bool.{Bool, true, false, not, ◌&&◌, ◌||◌, false≢true}
use native.Mathlib.Omega.{arith}
use lib.Dec.{eqb, leb, ltb}
use borrow.Author.Tests.{ltb-true, eqb-true, eqb-false, eq-eqb, not-true}
use Rattle.words.specs.Sizes.{memory, io, object, spaces, selectors, domain_of, space_of, records}
use Rattle.words.proofs.PlaceLaws.{space_small}
use Rattle.std.specs.Prelude.{if◌then◌else◌}
use Rattle.interface.specs.Places.{State, live, free, PD, EC, SC, PT, kind_word, domain_word, cpu_word, event_base_word, ec_word, priority_word, quantum_word, kind_of, greatest}
use Rattle.interface.specs.Boot.{hypervisor, cpus}
use Rattle.interface.specs.Damage.{fixed_record, fixed_place, interrupt_rule, unnamed_rule, used_first, pds_below, pd_rule, has_pd, is_ec, ec_rule, between1, sc_rule, pt_rule, null_place, is_resource, lineage_keeps, live_place, shallow}
use Rattle.interface.proofs.Basics.BoolLaws.{cases, and_left, and_right, or_second, guarded, guarded_first}
use Rattle.interface.proofs.Basics.BelowLaws.{any_below_at, any_below_lem, count_below_same}
use Rattle.interface.proofs.Sound.Soundness.{Sound}

-- a record keeps each rule of records
pub record KeepsRules (s : State) (r : ℕ) : Type 0 where
  pub keeps_fixed : fixed_record s r ≡ true
  pub keeps_interrupt : interrupt_rule s r ≡ true
  pub keeps_unnamed : unnamed_rule s r ≡ true
  pub keeps_used_first : used_first s r ≡ true
  pub keeps_pd : pd_rule s r ≡ true
  pub keeps_ec : ec_rule s r ≡ true
  pub keeps_sc : sc_rule s r ≡ true
  pub keeps_pt : pt_rule s r ≡ true

-- a state differs from another at one record at most, which is no PD before and keeps its kind where it or a later record is used
pub record DiffersAt (number : ℕ) (s t : State) : Type 0 where
  pub is_record : number < records
  pub same_caps : t.caps ≡ s.caps
  pub same_words : (r : ℕ) → (r ≡ number → ⊥) → t.objects r ≡ s.objects r
  pub same_kind : (r : ℕ) → number ≤ r → r < records → (kind_of s r ≡ free → ⊥) → kind_of t number ≡ kind_of s number
  pub no_pd : kind_of s number ≡ PD → ⊥

-- the greatest permissions in a space other than that of objects do not depend on a kind
greatest_same : (space a b : ℕ) → space < spaces → (space ≡ object → a ≡ b) → greatest space a ≡ greatest space b
greatest_same space a b l h =
    cases (eqb space memory) (λ (m : eqb space memory ≡ true). rw m)
    (λ (m : eqb space memory ≡ false).
    cases (eqb space io) (λ (i : eqb space io ≡ true). rw (m, i))
    (λ (i : eqb space io ≡ false).
    let o : space ≡ object = omega (arith, eqb-false space memory m, eqb-false space io i) in
    ap (greatest space) (h o)))

-- the tests of a live place: those of home, name and permissions may be others that hold where they do
live_tests : (alive home other_home name other_name small other_small rest : Bool) → (home ≡ true → other_home ≡ true) → (name ≡ true → other_name ≡ true) →
    (name ≡ true → other_small ≡ small) → (if alive then home && name && small && rest else true) ≡ true →
    (if alive then other_home && other_name && other_small && rest else true) ≡ true
live_tests true true other_home true other_name small other_small rest f g e h = rw (f refl, g refl, e refl) h
live_tests true true other_home false other_name small other_small rest f g e h = absurd (false≢true h)
live_tests true false other_home name other_name small other_small rest f g e h = absurd (false≢true h)
live_tests false home other_home name other_name small other_small rest f g e h = refl

module _ (number : ℕ) (s t : State) (d : DiffersAt number s t) where
  -- a used record keeps its kind
  pub used_kind : (q : ℕ) → q < records → (kind_of s q ≡ free → ⊥) → kind_of t q ≡ kind_of s q
  used_kind q l u =
      cases (eqb q number)
      (λ (e : eqb q number ≡ true).
      let same : q ≡ number = eqb-true q number e in
      rw same (d.same_kind q (omega arith) l u))
      (λ (e : eqb q number ≡ false). ap (λ (words : ℕ → ℕ). words kind_word) (d.same_words q (eqb-false q number e)))

  -- a record that is used stays so
  pub stays_used : (q : ℕ) → q < records → not (eqb (kind_of s q) free) ≡ true → not (eqb (kind_of t q) free) ≡ true
  stays_used q l h = rw (used_kind q l (eqb-false (kind_of s q) free (not-true (eqb (kind_of s q) free) h))) h

  -- a domain that has a PD, and a number that is an EC's, stay so
  pub has_pd_stays : (domain : ℕ) → has_pd s domain ≡ true → has_pd t domain ≡ true
  unfolding has_pd
  has_pd_stays domain h =
      let (q, l, is) = any_below_at records (λ r. eqb (kind_of s r) PD && eqb (s.objects r domain_word) domain) h in
      let kind : kind_of s q ≡ PD = eqb-true (kind_of s q) PD (and_left (eqb (kind_of s q) PD) (eqb (s.objects q domain_word) domain) is) in
      let other : q ≡ number → ⊥ = λ (e : q ≡ number). d.no_pd (rw e at kind) in
      any_below_lem records (λ r. eqb (kind_of t r) PD && eqb (t.objects r domain_word) domain) q l (rw (kind_of, d.same_words q other) is)

  pub is_ec_stays : (q : ℕ) → is_ec s q ≡ true → is_ec t q ≡ true
  unfolding is_ec
  is_ec_stays q h =
      let l : q < records = ltb-true q records (and_left (ltb q records) (eqb (kind_of s q) EC) h) in
      let kind : kind_of s q ≡ EC = eqb-true (kind_of s q) EC (and_right (ltb q records) (eqb (kind_of s q) EC) h) in
      rw (used_kind q l (omega arith)) h

  -- a record other than the one that differs keeps the rules
  module _ (k : Sound s) (r : ℕ) (l : r < records) (other : r ≡ number → ⊥) where
    same : t.objects r ≡ s.objects r
    same = d.same_words r other

    fixed_stays : fixed_record t r ≡ true
    unfolding fixed_record
    fixed_stays = rw same (k.fixed_records r l)

    interrupt_stays : interrupt_rule t r ≡ true
    unfolding interrupt_rule
    interrupt_stays = rw (kind_of, same) (k.interrupts r l)

    unnamed_stays : unnamed_rule t r ≡ true
    unfolding unnamed_rule
    unnamed_stays = rw (kind_of, same) (k.unnameds r l)

    used_first_stays : used_first t r ≡ true
    unfolding used_first
    used_first_stays =
        let h = k.used_firsts r l in
        cases (eqb (kind_of s r) free) (λ (f : eqb (kind_of s r) free ≡ true). rw (kind_of, same, f) (rw f at h))
        (λ (f : eqb (kind_of s r) free ≡ false).
        rw (kind_of, same, f)
        (or_second (eqb r 0) (not (eqb (kind_of s (r - 1)) free)) (not (eqb (kind_of t (r - 1)) free)) (stays_used (r - 1) (omega arith)) (rw f at h)))

    -- a PD has as many PDs before it as it had
    pds_stay : kind_of s r ≡ PD → pds_below t r ≡ pds_below s r
    unfolding pds_below
    pds_stay kind =
        count_below_same r (λ q. eqb (kind_of t q) PD) (λ q. eqb (kind_of s q) PD)
        (λ (q : ℕ) (b : q < r).
        cases (eqb q number)
        (λ (e : eqb q number ≡ true).
        let at : q ≡ number = eqb-true q number e in
        rw (at, d.same_kind r (omega arith) l (omega arith)))
        (λ (e : eqb q number ≡ false). rw (kind_of, d.same_words q (eqb-false q number e))))

    pd_stays : pd_rule t r ≡ true
    unfolding pd_rule
    pd_stays =
        cases (eqb (kind_of s r) PD)
        (λ (f : eqb (kind_of s r) PD ≡ true). rw (kind_of, same, pds_stay (eqb-true (kind_of s r) PD f)) (k.pds r l))
        (λ (f : eqb (kind_of s r) PD ≡ false). rw (kind_of, same, f))

    ec_stays : ec_rule t r ≡ true
    unfolding ec_rule
    ec_stays =
        let domain = s.objects r domain_word in
        rw (kind_of, same)
        (guarded_first (eqb (kind_of s r) EC) (has_pd s domain) (has_pd t domain) (ltb (s.objects r cpu_word) cpus)
        (ltb (s.objects r event_base_word) (selectors object)) (has_pd_stays domain) (k.ecs r l))

    sc_stays : sc_rule t r ≡ true
    unfolding sc_rule
    sc_stays =
        let named_ec = s.objects r ec_word in
        rw (kind_of, same)
        (guarded_first (eqb (kind_of s r) SC && leb cpus r) (is_ec s named_ec) (is_ec t named_ec) (between1 255 (s.objects r priority_word))
        (between1 1048575 (s.objects r quantum_word)) (is_ec_stays named_ec) (k.scs r l))

    pt_stays : pt_rule t r ≡ true
    unfolding pt_rule
    pt_stays =
        let named_ec = s.objects r ec_word in
        rw (kind_of, same)
        (guarded (eqb (kind_of s r) PT) (is_ec s named_ec) (is_ec t named_ec) (is_ec_stays named_ec) (k.pts r l))

    rules_stay : KeepsRules t r
    rules_stay =
        record {
          keeps_fixed = fixed_stays;
          keeps_interrupt = interrupt_stays;
          keeps_unnamed = unnamed_stays;
          keeps_used_first = used_first_stays;
          keeps_pd = pd_stays;
          keeps_ec = ec_stays;
          keeps_sc = sc_stays;
          keeps_pt = pt_stays;
        }

  -- an object that a place may name keeps its kind, and may be named still
  named_kind : (space resource : ℕ) → is_resource s space resource ≡ true → space ≡ object → kind_of t resource ≡ kind_of s resource
  named_kind space resource h o =
      let is : (ltb resource records && not (eqb (kind_of s resource) free)) ≡ true = rw (eq-eqb space object o) at h in
      used_kind resource (ltb-true resource records (and_left (ltb resource records) (not (eqb (kind_of s resource) free)) is))
      (eqb-false (kind_of s resource) free
      (not-true (eqb (kind_of s resource) free) (and_right (ltb resource records) (not (eqb (kind_of s resource) free)) is)))

  named_stays : (space resource : ℕ) → is_resource s space resource ≡ true → is_resource t space resource ≡ true
  named_stays space resource h =
      cases (eqb space object)
      (λ (o : eqb space object ≡ true). rw (o, named_kind space resource h (eqb-true space object o)) (rw o at h))
      (λ (o : eqb space object ≡ false). rw o (rw o at h))

  -- a place keeps the rule of live places
  live_stays : (p : ℕ) → live_place s p ≡ true → live_place t p ≡ true
  unfolding live_place has_pd
  live_stays p h =
      let cap = s.caps p in
      let home = eqb (domain_of p) hypervisor in
      rw d.same_caps
      (live_tests (live cap) (home || has_pd s (domain_of p)) (home || has_pd t (domain_of p)) (is_resource s (space_of p) cap.resource)
      (is_resource t (space_of p) cap.resource) (leb cap.permissions (greatest (space_of p) (kind_of s cap.resource)))
      (leb cap.permissions (greatest (space_of p) (kind_of t cap.resource)))
      (lineage_keeps s p)
      (or_second home (has_pd s (domain_of p)) (has_pd t (domain_of p)) (has_pd_stays (domain_of p))) (named_stays (space_of p) cap.resource)
      (λ (is : is_resource s (space_of p) cap.resource ≡ true).
      ap (leb cap.permissions)
      (greatest_same (space_of p) (kind_of t cap.resource) (kind_of s cap.resource) (space_small p) (named_kind (space_of p) cap.resource is)))
      h)

  -- so the state is sound where the record that differs keeps the rules
  pub sound_but_one : Sound s → KeepsRules t number → Sound t
  unfolding fixed_place null_place shallow
  sound_but_one k at =
      let rules : (r : ℕ) → r < records → KeepsRules t r =
      λ r l.
      cases (eqb r number) (λ (e : eqb r number ≡ true). rw (eqb-true r number e) at)
      (λ (e : eqb r number ≡ false). rules_stay k r l (eqb-false r number e)) in
      record {
        fixed_records = λ r l. (rules r l).keeps_fixed;
        fixed_places = λ p l. rw d.same_caps (k.fixed_places p l);
        interrupts = λ r l. (rules r l).keeps_interrupt;
        unnameds = λ r l. (rules r l).keeps_unnamed;
        used_firsts = λ r l. (rules r l).keeps_used_first;
        pds = λ r l. (rules r l).keeps_pd;
        ecs = λ r l. (rules r l).keeps_ec;
        scs = λ r l. (rules r l).keeps_sc;
        pts = λ r l. (rules r l).keeps_pt;
        nulls = λ p l. rw d.same_caps (k.nulls p l);
        lives = λ p l. live_stays p (k.lives p l);
        shallows = λ p l. rw d.same_caps (k.shallows p l);
      }
