-- What else follows from the rules: each statement under one sentence.
use Rattle.std.specs.Prelude.{ℕ, ◌+◌, ◌^◌, ◌≤◌, ◌<◌, ◌≡◌, ◌↔◌, ◌⊎◌, Bool, true, false, not, ◌||◌, ◌&&◌, List, [], ◌∷◌, eqb, if◌then◌else◌, Ok, Err}
use Rattle.words.specs.Sizes.{object, place_of, domain_of, space_of, selector_of, greatest_order}
use Rattle.words.specs.Permissions.{within}
use Rattle.words.specs.Ranges.{rounded}
use Rattle.reply.specs.Replies.{status_of}
use Rattle.descriptor.specs.declared.Range.{Range}
use Rattle.descriptor.specs.declared.Reading.{Reading}
use Rattle.descriptor.specs.declared.Reading.TheVariants.{Null, Malformed, Good}
use Rattle.reply.specs.declared.Refusal.TheVariants.{Damaged}
use Rattle.interface.specs.Basics.{word}
use Rattle.interface.specs.Places.{Cap, State, Tables, live, cap_at, shown, parentless, free, PD, EC, SC, PT, SM, domain_word, ec_word, kind_of, greatest_of, object_place, object_in}
use Rattle.interface.specs.Boot.{hypervisor, root}
use Rattle.interface.specs.Damage.{sound}
use Rattle.interface.specs.RangeDescriptors.{order_field, describe, reading}
use Rattle.interface.specs.Effects.{Effect, give, among, below, stripped, run}
use Rattle.interface.specs.Verdicts.{Call, CALL, CREATE_PD, REVOKE, LOOKUP, caller_domain, reply_of, effects_of, block_of}
use Rattle.interface.specs.Creations.{new_place, free_record, next_domain}
use Rattle.interface.specs.Revoke.{cuts}
use Rattle.interface.specs.Lookup.{space_caps}
use Rattle.interface.specs.Message.{delegate_window, typed_count, descriptor_at, second_at, delegate_bit, hypervisor_bit}
use Rattle.interface.specs.Rules.{rules, after, hypercall_reply, hypercall_block, hypercall_tables}
use Rattle.interface.specs.Census.{census_of}
use Rattle.interface.specs.Refusals.{MaskOutside}
use Rattle.interface.specs.History.{Event}
use Rattle.interface.specs.Demand.{tables_after, from_boot}

-- Every event on sound tables leaves sound tables, whatever sound tables they are
abbrev pub StaysSound : Type 0
StaysSound = (tables : Tables) (event : Event) → sound tables ≡ true → sound (tables_after tables event) ≡ true

-- A call or a census answers DAMAGED exactly where the tables are not sound; so after any events from boot none does
pub record DamagedExactly : Type 0 where
  pub hypercall_damaged : (tables : Tables) (c : Call) → (hypercall_reply tables c ≡ Err Damaged) ↔ (sound tables ≡ false)
  pub census_damaged : (tables : Tables) (place : ℕ) (list : List ℕ) → ((census_of tables place list).reply ≡ Err Damaged) ↔ (sound tables ≡ false)
  pub never_from_boot : (events : List Event) → sound (from_boot events) ≡ true

-- A refused event changes no word of tables, block or list
pub record RefusedStays : Type 0 where
  pub hypercall_stays : (tables : Tables) (c : Call) → (status_of (hypercall_reply tables c) ≡ 0 → ⊥) →
      (hypercall_tables tables c ≡ tables) × (hypercall_block tables c ≡ c.target)
  pub census_stays : (tables : Tables) (place : ℕ) (list : List ℕ) → (status_of (census_of tables place list).reply ≡ 0 → ⊥) →
      (census_of tables place list).list ≡ list

-- No event changes a place of domain 0, whatever the tables are
abbrev pub HypervisorStays : Type 0
HypervisorStays =
    (tables : Tables) (event : Event) (place : ℕ) → domain_of place ≡ hypervisor → cap_at (tables_after tables event).places place ≡ cap_at tables.places place

-- No call but CALL changes a word of the callee's block, whether it is granted or refused
abbrev pub BlocksStay : Type 0
BlocksStay = (s : State) (c : Call) → (c.number ≡ CALL → ⊥) → block_of c.target (rules s c) ≡ c.target

-- whether a descriptor names nothing: it is null, or the place of its base is
abbrev pub names_nothing : State → ℕ → Reading → Bool
names_nothing s domain Null = true
names_nothing s domain Malformed = false
names_nothing s domain (Good range) = not (live (s.caps (place_of domain range.space range.base)))

-- the places of the aligned range of an order around a selector are all live, with equal permissions and resources rising by one
abbrev pub Even : (ℕ → Cap) → ℕ → ℕ → Type 0
Even cap selector order =
    (i : ℕ) → i < 2 ^ order →
    let base = rounded order selector in
    (live (cap (base + i)) ≡ true) × ((cap (base + i)).permissions ≡ (cap selector).permissions) × ((cap (base + i)).resource ≡ (cap base).resource + i)

-- the order of the range that LOOKUP answers: it is even so, and no larger aligned range around the base is
pub record LargestOrder (s : State) (domain : ℕ) (range : Range) (order : ℕ) : Type 0 where
  pub order_small : order ≤ greatest_order range.space
  pub all_live : Even (space_caps s domain range.space) range.base order
  pub no_larger : (larger : ℕ) → order < larger → larger ≤ greatest_order range.space → Even (space_caps s domain range.space) range.base larger → ⊥

-- A selector that holds nothing is reported as nothing: a LOOKUP that is not refused answers 0 exactly when its descriptor names nothing, and otherwise the largest range
abbrev pub NothingIsNothing : Type 0
NothingIsNothing =
    (s : State) (c : Call) (answer : ℕ) → c.number ≡ LOOKUP → reply_of (rules s c) ≡ Ok answer →
    ((answer ≡ 0) ↔ (names_nothing s (caller_domain s c) (reading c.first) ≡ true)) ×
    ((range : Range) → reading c.first ≡ Good range → names_nothing s (caller_domain s c) (Good range) ≡ false →
    (order : ℕ) × LargestOrder s (caller_domain s c) range order ×
    (answer ≡
    describe
    (record {
      space = range.space;
      base = rounded order range.base;
      order = order;
      mask = (s.caps (place_of (caller_domain s c) range.space range.base)).permissions;
    })))

-- A range that LOOKUP answers has at most 64 selectors, in the object space too: each of its places names a resource of its own, and of pages, ports and objects there are 64 each
abbrev pub AnswersFew : Type 0
AnswersFew = (s : State) (c : Call) (answer : ℕ) → c.number ≡ LOOKUP → reply_of (rules s c) ≡ Ok answer → order_field answer ≤ 6

-- a step of a list that delegates to a place
pub data Delegates (destination source mask : ℕ) : List Effect → Type 0 where
  this_one : {effects : List Effect} → Delegates destination source mask (give destination source mask ∷ effects)
  later_one : {effect : Effect} {effects : List Effect} → Delegates destination source mask effects → Delegates destination source mask (effect ∷ effects)

-- what a call that fills a place by delegation gives it: the resource of a live source, which is its parent, and permissions within the source's and within the mask
pub record GivenFrom (after : State) (place source mask : ℕ) : Type 0 where
  pub source_live : live (after.caps source) ≡ true
  pub same_resource : (after.caps place).resource ≡ (after.caps source).resource
  pub is_child : (after.caps place).parent ≡ source + 1
  pub within_source : within (after.caps place).permissions (after.caps source).permissions ≡ true
  pub within_mask : within (after.caps place).permissions mask ≡ true
  pub deeper : (after.caps place).depth ≡ (after.caps source).depth + 1

-- whose place an item may delegate from: one of the caller's domain, or one of domain 0 where the item's second word sets H and the caller is the root
abbrev pub OwnSource : ℕ → ℕ → ℕ → Type 0
OwnSource domain second source =
    (domain_of source ≡ domain) ⊎ ((hypervisor_bit second ≡ 1) × (domain ≡ root) × (domain_of source ≡ hypervisor))

-- a place lies in a range, in whatever domain
pub record LiesIn (range : Range) (place : ℕ) : Type 0 where
  pub of_space : space_of place ≡ range.space
  pub from_base : range.base ≤ selector_of place
  pub before_end : selector_of place < range.base + 2 ^ range.order

-- the domain of the EC that CALL's portal names
abbrev pub callee_domain : State → Call → ℕ
callee_domain s c = s.objects (s.objects (object_in s (object_place (caller_domain s c) c.first)) ec_word) domain_word

-- CALL's message asks for a delegation: an item that word 0 counts sets the delegate bit; its descriptor and the callee's delegate window are read as ranges of one space; the
-- source lies in the item's range, and the caller may delegate from it; the place lies in the window, in the callee's domain; and the mask is the item's
pub record AskedByItem (s : State) (c : Call) (place source mask : ℕ) : Type 0 where
  pub is_call : c.number ≡ CALL
  pub item : ℕ
  pub is_item : item < typed_count (word c.source 0)
  pub asks_delegate : delegate_bit (word c.source (second_at item)) ≡ 1
  pub range : Range
  pub item_read : reading (word c.source (descriptor_at item)) ≡ Good range
  pub window : Range
  pub window_read : reading (word c.target delegate_window) ≡ Good window
  pub same_space : range.space ≡ window.space
  pub own_source : OwnSource (caller_domain s c) (word c.source (second_at item)) source
  pub source_inside : LiesIn range source
  pub callee_place : domain_of place ≡ callee_domain s c
  pub place_inside : LiesIn window place
  pub item_mask : mask ≡ range.mask

-- CREATE_PD asks for a delegation: its initial descriptor is read as a range of objects; the source lies in that, in the caller's domain; the place is the one of the same
-- selector in the new PD's domain; and the mask is the range's
pub record AskedByRange (s : State) (c : Call) (place source mask : ℕ) : Type 0 where
  pub is_create_pd : c.number ≡ CREATE_PD
  pub range : Range
  pub range_read : reading c.third ≡ Good range
  pub of_objects : range.space ≡ object
  pub own_source : domain_of source ≡ caller_domain s c
  pub source_inside : LiesIn range source
  pub new_domain : domain_of place ≡ next_domain s
  pub same_space : space_of place ≡ space_of source
  pub same_selector : selector_of place ≡ selector_of source
  pub range_mask : mask ≡ range.mask

-- the kind of object that a call of a number creates, and 0 for a number that creates none
abbrev pub kind_created : ℕ → ℕ
kind_created number = word (free ∷ free ∷ PD ∷ EC ∷ SC ∷ PT ∷ SM ∷ []) number

-- a place holds what a call created: the place is that of the new selector, and has the greatest permissions of the created kind, and no parent, for a record that was free
pub record CreatedAt (s : State) (c : Call) (later : State) (place : ℕ) : Type 0 where
  pub is_creation : kind_created c.number ≡ free → ⊥
  pub new_place_lem : place ≡ new_place s c
  pub was_free : kind_of s (free_record s) ≡ free
  pub of_kind : kind_of later (free_record s) ≡ kind_created c.number
  pub holds_greatest : later.caps place ≡ parentless (free_record s) (greatest_of (kind_created c.number))

-- how a call, with its steps and the state after it, came to fill a null place: by a delegation that its message or its initial range asks for, or by creating an object
pub data FilledBy (s : State) (c : Call) (steps : List Effect) (later : State) (place : ℕ) : Type 0 where
  by_delegation : (source mask : ℕ) → AskedByItem s c place source mask ⊎ AskedByRange s c place source mask → Delegates place source mask steps →
      GivenFrom later place source mask → FilledBy s c steps later place
  by_creation : CreatedAt s c later place → FilledBy s c steps later place

-- Delegation adds no permission: no call but REVOKE changes a live place; and a null place that is live after a call was filled by a delegation that the call asks for, with
-- permissions within its source's and within the mask of the item or of the initial range, or holds the object that the call created
pub record AddsNoPermission : Type 0 where
  pub live_stays : (s : State) (c : Call) → (c.number ≡ REVOKE → ⊥) → (place : ℕ) → live (s.caps place) ≡ true → (after s c).caps place ≡ s.caps place
  pub filled_so : (s : State) (c : Call) (place : ℕ) → live (s.caps place) ≡ false → live ((after s c).caps place) ≡ true →
      FilledBy s c (effects_of (rules s c)) (after s c) place

-- Revocation is exact: after a REVOKE that is not refused a place has its old permissions without the mask if it is a strict descendant of a place in the range, or in the range
-- with self 1, and its old ones otherwise; nothing else of it moves, except that a place left with none is null; and no object moves
abbrev pub RevokesExactly : Type 0
RevokesExactly =
    (s : State) (c : Call) (answer : ℕ) → c.number ≡ REVOKE → reply_of (rules s c) ≡ Ok answer →
    ((after s c).objects ≡ s.objects) ×
    (reading c.first ≡ Null → after s c ≡ s) ×
    ((range : Range) → reading c.first ≡ Good range → (place : ℕ) →
    let first = place_of (caller_domain s c) range.space range.base in
    let size = 2 ^ range.order in
    (after s c).caps place ≡
    (if below s.caps first size place || (eqb c.second 1 && among first size place) then stripped range.mask (s.caps place) else s.caps place))

-- The check of REVOKE's mask refuses only what would change nothing: the revocation of a descriptor whose mask has no permission of its space would leave all that sound tables show as
-- it is, in whatever domain, with self or without
abbrev pub NothingLost : Type 0
NothingLost =
    (tables : Tables) (descriptor domain : ℕ) (self : Bool) → sound tables ≡ true → MaskOutside descriptor →
    run (cuts domain self (reading descriptor)) (shown tables) ≡ shown tables
