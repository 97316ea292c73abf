-- PDs are numbered 1, 2, .. in the order of their records, so a domain has a PD exactly where it is one of as many numbers as there are PDs.
use Rattle.std.specs.Prelude.{Some, None}
use Prim.Native.Nat.{ℕ, ◌+◌, ◌-◌, ◌≤◌, ◌<◌}
use mathlib.Core.Path.{◌≡◌}
use mathlib.Core.Bool.{Bool, true, false, ◌&&◌, ◌||◌, and-false}
use mathlib.Core.List.{List}
use native.Mathlib.Omega.{arith}
use lib.Dec.{eqb, leb, ltb}
use borrow.Author.Tests.{ltb-true, leb-true, le-leb, eqb-true, eqb-false}
use Rattle.words.specs.Sizes.{domains, records}
use Rattle.interface.specs.Basics.{all_below}
use Rattle.interface.specs.Places.{Cap, State, object_at, PD, domain_word, kind_of}
use Rattle.interface.specs.Boot.{hypervisor}
use Rattle.interface.specs.Damage.{used_first, pds_below, pd_rule, has_pd, between1}
use Rattle.interface.proofs.Basics.BoolLaws.{and_left, and_right, both, same_test, cases}
use Rattle.interface.proofs.Basics.BelowLaws.{all_below_at, any_below_at, count_below_past, count_below_reaches}
use Rattle.interface.proofs.Basics.LoopLaws.{count_below_small}
use Rattle.interface.proofs.Sound.PlaceFacts.{pd_numbered}
use Rattle.interface.proofs.Sound.Soundness.{OfRecords}
use Rattle.interface.proofs.Sound.SoundFacts.{has_pd_lem}
use Rattle.record_rules.specs.RecordKeeping.{records_in, Numbered, counted_pds}

module _ (s : State) where
  -- there are no more PDs below a record than records
  pub pds_small : (r : ℕ) → pds_below s r ≤ r
  unfolding pds_below
  pds_small r = count_below_small (λ q. eqb (kind_of s q) PD) r

  pub pds_end : (n r before : ℕ) → r ≤ n → n ≤ r → before ≡ pds_below s r → before ≡ pds_below s n
  pds_end n r before l g h = let e : r ≡ n = omega arith in rw e at h

  module _ (numbered : OfRecords (pd_rule s)) (domain : ℕ) where
    has_number : has_pd s domain ≡ true → between1 (pds_below s records) domain ≡ true
    unfolding has_pd pds_below
    has_number h =
        let (r, l, t) = any_below_at records (λ q. eqb (kind_of s q) PD && eqb (s.objects q domain_word) domain) h in
        let own = s.objects r domain_word in
        let is_pd = and_left (eqb (kind_of s r) PD) (eqb own domain) t in
        let same = eqb-true own domain (and_right (eqb (kind_of s r) PD) (eqb own domain) t) in
        let in_turn_lem = pd_numbered s r (numbered r l) is_pd in
        let past = count_below_past records (λ q. eqb (kind_of s q) PD) r l is_pd in
        both (leb 1 domain) (leb domain (pds_below s records)) (le-leb 1 domain (omega arith)) (le-leb domain (pds_below s records) (omega arith))

    number_has : between1 (pds_below s records) domain ≡ true → has_pd s domain ≡ true
    unfolding pds_below
    number_has h =
        let from : 1 ≤ domain = leb-true 1 domain (and_left (leb 1 domain) (leb domain (pds_below s records)) h) in
        let upto : domain ≤ pds_below s records = leb-true domain (pds_below s records) (and_right (leb 1 domain) (leb domain (pds_below s records)) h) in
        let (r, l, t, e) = count_below_reaches records (λ q. eqb (kind_of s q) PD) (domain - 1) (omega arith) in
        let in_turn_lem = pd_numbered s r (numbered r l) t in
        has_pd_lem s r domain l (eqb-true (kind_of s r) PD t) (omega arith)

    -- a domain has a PD exactly where it is from 1 up to the number of PDs
    pub home_so : between1 (pds_below s records) domain ≡ has_pd s domain
    home_so = same_test (between1 (pds_below s records) domain) (has_pd s domain) number_has has_number

  -- the domain asked for may be read from a table
  pub home_own : (own domain : ℕ) (found : Bool) → own ≡ domain → found ≡ has_pd s own → found ≡ has_pd s domain
  home_own own domain found e h = rw e at h

-- what the capabilities are does not matter to whether a domain has a PD
pub home_found : (table : List ℕ) (caps : ℕ → Cap) (domain : ℕ) (found : Bool) → found ≡ has_pd (records_in table) domain →
    (eqb domain hypervisor || found) ≡ (eqb domain hypervisor || has_pd (record { caps = caps; objects = object_at table }) domain)
unfolding has_pd
home_found table caps domain found h = rw h

-- what a count of PDs answers, and what it tells
module _ (s : State) where
  -- whether used records and free ones keep their rule, and PDs theirs
  abbrev turning : Bool
  turning = all_below records (used_first s) && all_below records (pd_rule s)

  pub out_of_turn : all_below records (pd_rule s) ≡ false → None ≡ counted_pds s
  out_of_turn f = rw (f, and-false (all_below records (used_first s)))

  pub out_of_use : all_below records (used_first s) ≡ false → None ≡ counted_pds s
  out_of_use f = rw f

  pub in_turn_lem : (pds : ℕ) → all_below records (used_first s) ≡ true → all_below records (pd_rule s) ≡ true → pds ≡ pds_below s records → Some pds ≡ counted_pds s
  in_turn_lem pds u t e = rw (u, t, e)

  pub turns_kept : (pds : ℕ) → counted_pds s ≡ Some pds →
      (all_below records (used_first s) ≡ true) × (all_below records (pd_rule s) ≡ true) × (pds ≡ pds_below s records)
  turns_kept pds e =
      cases turning
      (λ (t : turning ≡ true).
      let same : Some (pds_below s records) ≡ Some pds = rw t at e in
      (and_left (all_below records (used_first s)) (all_below records (pd_rule s)) t, and_right (all_below records (used_first s)) (all_below records (pd_rule s)) t, cc))
      (λ (f : turning ≡ false).
      let wrong : None ≡ Some pds = rw f at e in
      let never : ◌≡◌ {A = ℕ} 0 1 = cc in
      absurd (omega arith))

  pub turns_broken : counted_pds s ≡ None → (all_below records (used_first s) && all_below records (pd_rule s)) ≡ false
  turns_broken e =
      cases turning
      (λ (t : turning ≡ true).
      let wrong : Some (pds_below s records) ≡ None = rw t at e in
      let never : ◌≡◌ {A = ℕ} 0 1 = cc in
      absurd (omega arith))
      (λ (f : turning ≡ false). f)

-- the last PD's domain is one of the domains, so there are fewer PDs than these
pub few_pds : {table : List ℕ} {pds : ℕ} → Numbered table pds → pds < domains
unfolding pds_below pd_rule
few_pds {table} {pds} numbered =
    let s = records_in table in
    cases (eqb pds 0) (λ (t : eqb pds 0 ≡ true). let none = eqb-true pds 0 t in omega arith)
    (λ (f : eqb pds 0 ≡ false).
    let some = eqb-false pds 0 f in
    let (r, l, t, e) = count_below_reaches records (λ q. eqb (kind_of s q) PD) (pds - 1) (omega (arith, numbered.counted)) in
    let own = s.objects r domain_word in
    let rule = all_below_at records (pd_rule s) numbered.in_turn_lem r l in
    let small : own < domains = ltb-true own domains (and_right (eqb own (pds_below s r + 1)) (ltb own domains) (rw t at rule)) in
    omega (arith, pd_numbered s r rule t))

-- the same of an object table whose PDs have been counted
pub home_counted : {table : List ℕ} {pds : ℕ} → Numbered table pds → (caps : ℕ → Cap) (domain own : ℕ) → domain ≡ own →
    between1 pds domain ≡ has_pd (record { caps = caps; objects = object_at table }) own
unfolding has_pd
home_counted {table} numbered caps domain own e =
    rw (numbered.counted, e) (home_so (records_in table) (all_below_at records (pd_rule (records_in table)) numbered.in_turn_lem) own)
