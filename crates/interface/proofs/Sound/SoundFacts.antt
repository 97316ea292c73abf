-- What a sound state tells: of the domains that have a PD, of ECs and portals, of the free records, and of the places that a rule asks for.
use Prim.Native.Nat.{ℕ, ◌+◌, ◌-◌, ◌%◌, ◌<◌}
use mathlib.Core.Path.{◌≡◌}
use mathlib.Core.Bool.{true, not, ◌&&◌}
use native.Mathlib.Nat.{zero-div, zero-mod}
use native.Mathlib.Omega.{arith}
use lib.Dec.{eqb, ltb}
use borrow.Author.Tests.{ltb-true, lt-ltb, eqb-true, eq-eqb}
use Rattle.words.specs.Fields.{bits}
use Rattle.words.specs.Sizes.{domains, object, selectors, domain_of, space_of, places, records}
use Rattle.words.specs.Permissions.{permits}
use Rattle.words.proofs.PlaceLaws.{is_place, domain_back, space_back}
use Rattle.interface.specs.Places.{Cap, State, live, free, PD, EC, PT, domain_word, ec_word, cpu_word, event_base_word, kind_of, object_place, permitted, object_in}
use Rattle.interface.specs.Boot.{cpus}
use Rattle.interface.specs.Damage.{pds_below, pd_rule, has_pd, is_ec, ec_rule, pt_rule, is_resource}
use Rattle.interface.specs.Creations.{free_record, next_domain}
use Rattle.interface.proofs.Basics.BoolLaws.{and_left, and_right, both, asked}
use Rattle.interface.proofs.Basics.BelowLaws.{any_below_lem, any_below_at, count_below_none, count_below_past, count_below_reaches}
use Rattle.interface.proofs.Sound.Soundness.{Sound}
use Rattle.interface.proofs.Sound.PlaceFacts.{some_live, live_facts, pd_numbered}
use Rattle.interface.proofs.Sound.SoundObjects.{free_from}

-- an object place of a domain
module _ (domain selector : ℕ) where
  pub object_place_lem : domain < domains → object_place domain selector < places
  object_place_lem h = is_place domain object (selector % selectors object) h (omega arith) (omega arith)

  pub object_place_domain : domain_of (object_place domain selector) ≡ domain
  object_place_domain = domain_back domain object (selector % selectors object) (omega arith) (omega arith)

  pub object_place_space : space_of (object_place domain selector) ≡ object
  object_place_space = space_back domain object (selector % selectors object) (omega arith) (omega arith)

-- a place that has a permission is live
pub permits_live : (bit : ℕ) (cap : Cap) → permits bit cap.permissions ≡ true → live cap ≡ true
permits_live bit cap h =
    some_live cap.permissions
    (λ none.
    let one : bits bit bit 0 ≡ 1 = rw none at (eqb-true (bits bit bit cap.permissions) 1 h) in
    let no_bit : bits bit bit 0 ≡ 0 = simp (zero-div, zero-mod) in
    omega arith)

-- what a permitted place names is of the kind asked for
pub permitted_kind : (s : State) (place kind bit : ℕ) → permitted s place kind bit ≡ true → kind_of s (object_in s place) ≡ kind
permitted_kind s place kind bit h =
    eqb-true (kind_of s (object_in s place)) kind (and_right (permits bit (s.caps place).permissions) (eqb (kind_of s (object_in s place)) kind) h)

-- an EC's number is a record's, of its kind
module _ (s : State) (number : ℕ) where
  pub ec_small : is_ec s number ≡ true → number < records
  unfolding is_ec
  ec_small h = ltb-true number records (and_left (ltb number records) (eqb (kind_of s number) EC) h)

  pub ec_kind : is_ec s number ≡ true → kind_of s number ≡ EC
  unfolding is_ec
  ec_kind h = eqb-true (kind_of s number) EC (and_right (ltb number records) (eqb (kind_of s number) EC) h)

  pub is_ec_lem : number < records → kind_of s number ≡ EC → is_ec s number ≡ true
  unfolding is_ec
  is_ec_lem l h = both (ltb number records) (eqb (kind_of s number) EC) (lt-ltb number records l) (eq-eqb (kind_of s number) EC h)

-- a domain has a PD where some record is its PD
pub has_pd_lem : (s : State) (r domain : ℕ) → r < records → kind_of s r ≡ PD → s.objects r domain_word ≡ domain → has_pd s domain ≡ true
unfolding has_pd
has_pd_lem s r domain l h e =
    any_below_lem records (λ q. eqb (kind_of s q) PD && eqb (s.objects q domain_word) domain) r l
    (both (eqb (kind_of s r) PD) (eqb (s.objects r domain_word) domain) (eq-eqb (kind_of s r) PD h) (eq-eqb (s.objects r domain_word) domain e))

-- a domain with a PD: it is one of the domains, and comes before the one that the next PD takes
pub record Home (s : State) (domain : ℕ) : Type 0 where
  pub small : domain < domains
  pub taken : domain < next_domain s

module _ (s : State) (k : Sound s) where
  pub home : (domain : ℕ) → has_pd s domain ≡ true → Home s domain
  unfolding has_pd pd_rule pds_below
  home domain h =
      let (r, l, t) = any_below_at records (λ q. eqb (kind_of s q) PD && eqb (s.objects q domain_word) domain) h in
      let own = s.objects r domain_word in
      let is_pd = and_left (eqb (kind_of s r) PD) (eqb own domain) t in
      let same = eqb-true own domain (and_right (eqb (kind_of s r) PD) (eqb own domain) t) in
      let in_turn_lem = pd_numbered s r (k.pds r l) is_pd in
      let past = count_below_past records (λ q. eqb (kind_of s q) PD) r l is_pd in
      let few =
      ltb-true own domains
      (and_right (eqb own (pds_below s r + 1)) (ltb own domains)
      (asked (eqb (kind_of s r) PD) (eqb own (pds_below s r + 1) && ltb own domains) (k.pds r l) is_pd)) in
      record { small = omega arith; taken = omega arith }

  -- an EC is of a domain with a PD
  pub ec_home : (number : ℕ) → is_ec s number ≡ true → has_pd s (s.objects number domain_word) ≡ true
  unfolding ec_rule
  ec_home number h =
      let at_home = has_pd s (s.objects number domain_word) in
      let has_cpu = ltb (s.objects number cpu_word) cpus in
      let has_base = ltb (s.objects number event_base_word) (selectors object) in
      let kept =
      asked (eqb (kind_of s number) EC) (at_home && has_cpu && has_base) (k.ecs number (ec_small s number h))
      (eq-eqb (kind_of s number) EC (ec_kind s number h)) in
      and_left at_home has_cpu (and_left (at_home && has_cpu) has_base kept)

  -- a portal names an EC
  pub portal_ec : (r : ℕ) → r < records → kind_of s r ≡ PT → is_ec s (s.objects r ec_word) ≡ true
  unfolding pt_rule
  portal_ec r l h = asked (eqb (kind_of s r) PT) (is_ec s (s.objects r ec_word)) (k.pts r l) (eq-eqb (kind_of s r) PT h)

  -- what a permitted object place names is a record
  pub permitted_record : (place kind bit : ℕ) → place < places → space_of place ≡ object → permitted s place kind bit ≡ true → object_in s place < records
  permitted_record place kind bit l e h =
      let alive = permits_live bit (s.caps place) (and_left (permits bit (s.caps place).permissions) (eqb (kind_of s (object_in s place)) kind) h) in
      let named_object : is_resource s object (object_in s place) ≡ true = rw e at (live_facts s place (k.lives place l) alive).names in
      ltb-true (object_in s place) records (and_left (ltb (object_in s place) records) (not (eqb (kind_of s (object_in s place)) free)) named_object)

  -- and so is what one of an EC's own domain names
  pub own_record : (caller selector kind bit : ℕ) → is_ec s caller ≡ true → permitted s (object_place (s.objects caller domain_word) selector) kind bit ≡ true →
      object_in s (object_place (s.objects caller domain_word) selector) < records
  own_record caller selector kind bit e h =
      let domain = s.objects caller domain_word in
      permitted_record (object_place domain selector) kind bit (object_place_lem domain selector (home domain (ec_home caller e)).small)
      (object_place_space domain selector) h

  -- every PD is below the lowest free record
  pub pds_used : free_record s < records → pds_below s records ≡ pds_below s (free_record s)
  unfolding pds_below
  pds_used l =
      count_below_none (free_record s) records (λ q. eqb (kind_of s q) PD) (omega arith)
      (λ i b c. let none : kind_of s i ≡ free = free_from s k i b c in rw none)

  -- the domains from 1 up to as many as there are PDs have a PD
  pub numbered_home : (domain : ℕ) → 0 < domain → domain < next_domain s → has_pd s domain ≡ true
  unfolding pds_below
  numbered_home domain some l =
      let (r, small, is_pd, e) = count_below_reaches records (λ q. eqb (kind_of s q) PD) (domain - 1) (omega arith) in
      has_pd_lem s r domain small (eqb-true (kind_of s r) PD is_pd) (omega (arith, pd_numbered s r (k.pds r small) is_pd))
