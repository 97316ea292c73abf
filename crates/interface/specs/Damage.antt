-- Damage: the twelve rules that tables keep. Tables that break one are damaged, and every call refuses them.
use Rattle.std.specs.Prelude.{ℕ, ◌+◌, ◌-◌, Bool, true, not, ◌&&◌, ◌||◌, List, [], ◌∷◌, eqb, leb, ltb, if◌then◌else◌, Option, Some, None}
use Rattle.words.specs.Sizes.{domains, object, selectors, domain_of, space_of, places, records, record_words, greatest_depth}
use Rattle.words.specs.Permissions.{within}
use Rattle.reply.specs.declared.Fault.{Fault}
use Rattle.reply.specs.declared.Fault.TheVariants.{Lengths, AtRecord, AtPlace}
use Rattle.interface.specs.Basics.{all_below, any_below, count_below, lowest, all}
use Rattle.interface.specs.Places.{Cap, State, Tables, live, nothing, sized, shown, free, PD, EC, SC, PT, SM, domain_word, cpu_word, event_base_word, ec_word, priority_word, quantum_word, named_words, kind_of, greatest}
use Rattle.interface.specs.Boot.{boot, hypervisor, cpus, root_pd, root_sc}

-- a rule of damage after the first: its number, and whether a record keeps it, and whether a place does
pub record Rule : Type 0 where
  pub number : ℕ
  pub record_keeps_lem : State → ℕ → Bool
  pub place_keeps_lem : State → ℕ → Bool

-- rules of records alone, and of places alone
abbrev pub of_records : ℕ → (State → ℕ → Bool) → Rule
of_records number test = record { number = number; record_keeps_lem = test; place_keeps_lem = λ s p. true }

abbrev pub of_places : ℕ → (State → ℕ → Bool) → Rule
of_places number test = record { number = number; record_keeps_lem = λ s r. true; place_keeps_lem = test }

-- whether two places show the same
abbrev pub same_cap : Cap → Cap → Bool
same_cap a b =
    eqb a.resource b.resource && eqb a.permissions b.permissions && eqb a.parent b.parent && eqb a.depth b.depth

-- whether a record is as at boot
abbrev pub record_as_boot : State → ℕ → Bool
record_as_boot s r = all_below record_words (λ k. eqb (s.objects r k) (boot.objects r k))

-- 2: domain 0, the idle SCs and the root's PD, EC and SC are as at boot
unfoldable pub fixed_record : State → ℕ → Bool
fixed_record s r = if ltb r cpus || (leb root_pd r && leb r root_sc) then record_as_boot s r else true

unfoldable pub fixed_place : State → ℕ → Bool
fixed_place s p = if eqb (domain_of p) hypervisor then same_cap (s.caps p) (boot.caps p) else true

-- 3: the records of the interrupts are SMs
unfoldable pub interrupt_rule : State → ℕ → Bool
interrupt_rule s r = if leb cpus r && ltb r root_pd then eqb (kind_of s r) SM else true

-- 4: kinds are 0 to 5, and the words that a used record does not name are 0
unfoldable pub unnamed_rule : State → ℕ → Bool
unnamed_rule s r =
    leb (kind_of s r) SM &&
    (if eqb (kind_of s r) free then true else all_below record_words (λ k. leb k (named_words (kind_of s r)) || eqb (s.objects r k) 0))

-- 5: used records come first, so the record before a used one is used (of several used records after a free one the first breaks the rule); and a free record is all 0
unfoldable pub used_first : State → ℕ → Bool
used_first s r =
    if eqb (kind_of s r) free then all_below record_words (λ k. eqb (s.objects r k) 0)
    else eqb r 0 || not (eqb (kind_of s (r - 1)) free)

-- the number of PDs below a record
unfoldable pub pds_below : State → ℕ → ℕ
pds_below s r = count_below r (λ q. eqb (kind_of s q) PD)

-- 6: PDs number their domains 1, 2, .. in the order of the records, none above 7
unfoldable pub pd_rule : State → ℕ → Bool
pd_rule s r = if eqb (kind_of s r) PD then eqb (s.objects r domain_word) (pds_below s r + 1) && ltb (s.objects r domain_word) domains else true

-- whether a domain has a PD
unfoldable pub has_pd : State → ℕ → Bool
has_pd s domain = any_below records (λ r. eqb (kind_of s r) PD && eqb (s.objects r domain_word) domain)

-- whether a number is an EC's
unfoldable pub is_ec : State → ℕ → Bool
is_ec s number = ltb number records && eqb (kind_of s number) EC

-- 7: each EC has a domain with a PD, a CPU and an event base
unfoldable pub ec_rule : State → ℕ → Bool
ec_rule s r =
    if eqb (kind_of s r) EC then has_pd s (s.objects r domain_word) && ltb (s.objects r cpu_word) cpus && ltb (s.objects r event_base_word) (selectors object)
    else true

-- whether a number is from 1 up to a greatest one
abbrev pub between1 : ℕ → ℕ → Bool
between1 most number = leb 1 number && leb number most

-- the greatest priority and quantum: those that a QPD's fields of 8 and 20 bits hold
abbrev pub greatest_priority : ℕ
greatest_priority = 255

abbrev pub greatest_quantum : ℕ
greatest_quantum = 1048575

-- 8: each SC but the idle ones names an EC and has a priority from 1 to 255 and a quantum from 1 to 1,048,575
unfoldable pub sc_rule : State → ℕ → Bool
sc_rule s r =
    if eqb (kind_of s r) SC && leb cpus r then
    is_ec s (s.objects r ec_word) && between1 greatest_priority (s.objects r priority_word) && between1 greatest_quantum (s.objects r quantum_word)
    else true

-- 9: each PT names an EC
unfoldable pub pt_rule : State → ℕ → Bool
pt_rule s r = if eqb (kind_of s r) PT then is_ec s (s.objects r ec_word) else true

-- 10: each null place is all 0
unfoldable pub null_place : State → ℕ → Bool
null_place s p = live (s.caps p) || same_cap (s.caps p) nothing

-- whether a number is that of a page, a port or a used object
abbrev pub is_resource : State → ℕ → ℕ → Bool
is_resource s space resource = if eqb space object then ltb resource records && not (eqb (kind_of s resource) free) else ltb resource (selectors space)

-- whether a place without a parent may be one: its depth is 0, and memory and I/O have such places in domain 0 only
abbrev pub parentless_place : State → ℕ → Bool
parentless_place s p = eqb (s.caps p).depth 0 && (eqb (space_of p) object || eqb (domain_of p) hypervisor)

-- whether a place may be the parent of a capability in a space: it is live, of that space and the same resource, has permissions that include the capability's own, and a
-- depth one less
abbrev pub parent_fits : State → ℕ → Cap → ℕ → Bool
parent_fits s space cap parent =
    ltb parent places && live (s.caps parent) && eqb (space_of parent) space && eqb (s.caps parent).resource cap.resource &&
    within cap.permissions (s.caps parent).permissions && eqb ((s.caps parent).depth + 1) cap.depth

-- whether a place may have a parent
abbrev pub child_place : State → ℕ → ℕ → Bool
child_place s p parent = parent_fits s (space_of p) (s.caps p) parent

-- whether a place has a fitting parent or none
abbrev pub lineage_keeps : State → ℕ → Bool
lineage_keeps s p = if eqb (s.caps p).parent 0 then parentless_place s p else child_place s p ((s.caps p).parent - 1)

-- 11: each live place lies in domain 0 or a domain with a PD, names a resource, has no permission above the greatest (whose bits are all the low ones, so that a number
-- above it has another bit), and has a fitting parent or none
unfoldable pub live_place : State → ℕ → Bool
live_place s p =
    if live (s.caps p) then
    (eqb (domain_of p) hypervisor || has_pd s (domain_of p)) && is_resource s (space_of p) (s.caps p).resource &&
    leb (s.caps p).permissions (greatest (space_of p) (kind_of s (s.caps p).resource)) &&
    lineage_keeps s p
    else true

-- 12: no depth exceeds 63
unfoldable pub shallow : State → ℕ → Bool
shallow s p = leb (s.caps p).depth greatest_depth

-- the rules after the first, in order
abbrev pub rules_of_damage : List Rule
rules_of_damage =
    record { number = 2; record_keeps_lem = fixed_record; place_keeps_lem = fixed_place } ∷
    of_records 3 interrupt_rule ∷ of_records 4 unnamed_rule ∷ of_records 5 used_first ∷ of_records 6 pd_rule ∷ of_records 7 ec_rule ∷ of_records 8 sc_rule ∷ of_records 9 pt_rule ∷
    of_places 10 null_place ∷ of_places 11 live_place ∷ of_places 12 shallow ∷ []

-- whether every record and every place keeps a rule
unfoldable pub keeps : State → Rule → Bool
keeps s rule = all_below records (rule.record_keeps_lem s) && all_below places (rule.place_keeps_lem s)

-- whether a state keeps the rules after the first
unfoldable pub sound_state : State → Bool
sound_state s = all (keeps s) rules_of_damage

-- 1: the tables have their lengths. Tables are sound where they keep this rule and show a state that keeps the others, and damaged otherwise
unfoldable pub sound : Tables → Bool
sound tables = sized tables && sound_state (shown tables)

-- which rule is the first that a state breaks, and where: the lowest record that breaks it, or else the lowest place
unfoldable pub first_fault : State → List Rule → Option Fault
first_fault s [] = None
first_fault s (rule ∷ rules) =
    let r = lowest records (λ i. not (rule.record_keeps_lem s i)) in
    let p = lowest places (λ i. not (rule.place_keeps_lem s i)) in
    let later = first_fault s rules in
    if ltb r records then Some (AtRecord rule.number r) else
    if ltb p places then Some (AtPlace rule.number p) else
    later

-- the first fault of tables; wrong lengths are rule 1's
unfoldable pub fault : Tables → Option Fault
fault tables = if sized tables then first_fault (shown tables) rules_of_damage else Some Lengths
