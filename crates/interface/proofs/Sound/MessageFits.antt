-- CALL's steps fit: each item's delegations go from places of the source's domain to places of the receiver's, which has a PD.
use Rattle.reply.specs.declared.Refusal.{Refusal}
use Rattle.std.specs.Prelude.{Ok, Err, if◌then◌else◌}
use mathlib.Core.Logic.{◌⊎◌, inl, inr, ⊎_elim}
use Prim.Native.Nat.{ℕ, zero, suc, ◌+◌, ◌^◌, ◌≤◌, ◌<◌}
use mathlib.Core.Path.{◌≡◌, refl, sym, subst}
use mathlib.Core.Bool.{Bool, true, false, cond, ◌&&◌}
use mathlib.Core.List.{List}
use native.Mathlib.Omega.{arith}
use lib.Dec.{eqb}
use borrow.Author.Tests.{eqb-true}
use Rattle.words.specs.Sizes.{domains, selectors, place_of}
use Rattle.words.proofs.RangeLaws.{ends_inside}
use Rattle.descriptor.specs.declared.Reading.{Reading}
use Rattle.descriptor.specs.declared.Reading.TheVariants.{Null, Malformed, Good}
use Rattle.descriptor.specs.Descriptors.{Match, Proper, ReadProper}
use Rattle.reply.specs.Replies.{Reply}
use Rattle.descriptor.specs.declared.Reason.TheVariants.{TypesDiffer}
use Rattle.descriptor.proofs.DescriptorLaws.{good_proper}
use Rattle.interface.specs.Basics.{word}
use Rattle.interface.specs.Places.{State, PT, ec_word, domain_word, call_bit, object_place, permitted, object_in}
use Rattle.interface.specs.Boot.{hypervisor, root}
use Rattle.interface.specs.Damage.{has_pd, is_ec}
use Rattle.interface.specs.RangeDescriptors.{reading, matched}
use Rattle.interface.specs.Effects.{run}
use Rattle.interface.specs.Verdicts.{Call, Verdict, refuse, deliver, effects_of, caller_domain}
use Rattle.interface.specs.Message.{translate_window, delegate_window, typed_count, descriptor_at, second_at, delegate_bit, hotspot_field, Item, source_domain, smaller_order, raised_base, delegate_item, translate_item, item_of, carried, transfer, hypervisor_bit}
use Rattle.interface.specs.PortalCalls.{portal_call}
use Rattle.interface.proofs.Basics.BoolLaws.{either_way}
use Rattle.interface.proofs.Sound.Soundness.{Sound}
use Rattle.interface.proofs.Tables.Steps.{FitInTurn}
use Rattle.interface.proofs.Tables.TurnLaws.{require_so, same_home, give_fits, PlaceSteps, place_steps_none, place_steps_append, gives_fit}
use Rattle.interface.proofs.Sound.SoundFacts.{own_record, permitted_kind, portal_ec, home, ec_home}

-- a matched item and its window are proper ranges of one space
abbrev pub MatchProper : Match → Type 0
MatchProper (Err reason) = Unit {0}
MatchProper (Ok (item, window)) = Proper item × Proper window × (item.space ≡ window.space)

pub match_proper : (item window : Reading) → ReadProper item → ReadProper window → MatchProper (matched item window)
unfolding matched
match_proper Null Null p q = tt
match_proper Null Malformed p q = tt
match_proper Null (Good window) p q = tt
match_proper Malformed Null p q = tt
match_proper Malformed Malformed p q = tt
match_proper Malformed (Good window) p q = tt
match_proper (Good item) Null p q = tt
match_proper (Good item) Malformed p q = tt
match_proper (Good item) (Good window) p q = same_space (eqb item.space window.space) refl
  where
    same_space : (same : Bool) → eqb item.space window.space ≡ same → MatchProper (cond same (Ok (item, window)) (Err TypesDiffer))
    same_space true e = (p item refl, q window refl, eqb-true item.space window.space e)
    same_space false e = tt

-- where an item is matched with its window, both were read so
abbrev pub MatchRead : Reading → Reading → Match → Type 0
MatchRead read window_read (Err reason) = Unit {0}
MatchRead read window_read (Ok (item, window)) = (read ≡ Good item) × (window_read ≡ Good window)

pub match_read : (item window : Reading) → MatchRead item window (matched item window)
unfolding matched
match_read Null Null = tt
match_read Null Malformed = tt
match_read Null (Good window) = tt
match_read Malformed Null = tt
match_read Malformed Malformed = tt
match_read Malformed (Good window) = tt
match_read (Good item) Null = tt
match_read (Good item) Malformed = tt
match_read (Good item) (Good window) =
    either_way (MatchRead (Good item) (Good window)) (eqb item.space window.space) (Ok (item, window)) (Err TypesDiffer) (refl, refl) tt

-- the source's domain is the sender's, or domain 0 where H is set and the sender is the root
pub source_either : (sender second : ℕ) →
    (source_domain sender second ≡ sender) ⊎ ((hypervisor_bit second ≡ 1) × (sender ≡ root) × (source_domain sender second ≡ hypervisor))
unfolding source_domain
source_either sender second =
    choose (eqb (hypervisor_bit second) 1) (eqb sender root) (eqb-true (hypervisor_bit second) 1) (eqb-true sender root)
  where
    choose : (asked is_root : Bool) → (asked ≡ true → hypervisor_bit second ≡ 1) → (is_root ≡ true → sender ≡ root) →
        ((if asked && is_root then hypervisor else sender) ≡ sender) ⊎
        ((hypervisor_bit second ≡ 1) × (sender ≡ root) × ((if asked && is_root then hypervisor else sender) ≡ hypervisor))
    choose true true g h = inr (g refl, h refl, refl)
    choose true false g h = inl refl
    choose false is_root g h = inl refl

source_small : (sender second : ℕ) → sender < domains → source_domain sender second < domains
source_small sender second f =
    ⊎_elim (λ (own : source_domain sender second ≡ sender). rw own f)
    (λ (zeroth : (hypervisor_bit second ≡ 1) × (sender ≡ root) × (source_domain sender second ≡ hypervisor)). rw zeroth.2 (omega arith))
    (source_either sender second)

-- a matched item's delegations lie in its range and in its window
delegate_fits : (s : State) (sender receiver second : ℕ) (match : Match) → sender < domains → receiver < domains → has_pd s receiver ≡ true → MatchProper match →
    PlaceSteps (delegate_item s sender receiver second match).effects s
unfolding delegate_item
delegate_fits s sender receiver second (Err reason) f l h p = place_steps_none s
delegate_fits s sender receiver second (Ok (item, window)) f l h p =
    let from = source_domain sender second in
    let o = smaller_order item window in
    let hotspot = hotspot_field second in
    let item_base = raised_base item o hotspot in
    let window_base = raised_base window o hotspot in
    let item_ends = p.0.ends_inside in
    let window_ends = subst (λ (space : ℕ). window.base + 2 ^ window.order ≤ selectors space) (sym p.2) p.1.ends_inside in
    let item_within = ends_inside item.order o hotspot item.base (omega arith) in
    let window_within = ends_inside window.order o hotspot window.base (omega arith) in
    gives_fit (λ i. place_of receiver item.space (window_base + i)) (λ i. place_of from item.space (item_base + i)) _ (2 ^ o) s
    (λ i b.
    give_fits s from receiver item.space (window_base + i) (item_base + i) (source_small sender second f) l p.0.space_small (omega arith) (omega arith) h)

-- a translated item has no steps
translate_fits : (s : State) (sender receiver : ℕ) (match : Match) → PlaceSteps (translate_item s sender receiver match).effects s
unfolding translate_item
translate_fits s sender receiver (Err reason) = place_steps_none s
translate_fits s sender receiver (Ok (item, window)) = place_steps_none s

-- an item's steps fit on the state as it stands, and so do those of some items in turn
item_fits : (s : State) (sender receiver : ℕ) (source target : List ℕ) (i : ℕ) → sender < domains → receiver < domains → has_pd s receiver ≡ true →
    PlaceSteps (item_of s sender receiver source target i).effects s
unfolding item_of
item_fits s sender receiver source target i f l h =
    let second = word source (second_at i) in
    let from = word source (descriptor_at i) in
    let matched_in : ℕ → Match = λ window. matched (reading from) (reading (word target window)) in
    either_way (λ (item : Item). PlaceSteps item.effects s) (eqb (delegate_bit second) 1) (delegate_item s sender receiver second (matched_in delegate_window))
    (translate_item s sender receiver (matched_in translate_window))
    (delegate_fits s sender receiver second (matched_in delegate_window) f l h
    (match_proper (reading from) (reading (word target delegate_window)) (good_proper from) (good_proper (word target delegate_window))))
    (translate_fits s sender receiver (matched_in translate_window))

carried_fits : (s : State) (sender receiver : ℕ) (source target : List ℕ) → sender < domains → receiver < domains → has_pd s receiver ≡ true → (n : ℕ) →
    PlaceSteps (carried s sender receiver source target n).effects s
unfolding carried
carried_fits s sender receiver source target f l h zero = place_steps_none s
carried_fits s sender receiver source target f l h (suc i) =
    let before = (carried s sender receiver source target i).effects in
    let ih = carried_fits s sender receiver source target f l h i in
    let now = run before s in
    place_steps_append before (item_of now sender receiver source target i).effects s ih
    (item_fits now sender receiver source target i f l (same_home s now receiver ih.objects_stay h))

-- what holds of every refusal, and of a transfer to the EC of a permitted portal, holds of CALL
pub call_so : (P : Verdict → Type 0) (s : State) (c : Call) → ((refusal : Refusal) → P (refuse refusal)) →
    let portal = object_place (caller_domain s c) c.first in
    let moved = transfer s (caller_domain s c) (s.objects (s.objects (object_in s portal) ec_word) domain_word) c.source c.target in
    (permitted s portal PT call_bit ≡ true → P (deliver moved.filled moved.effects moved.block)) → P (portal_call s c)
unfolding portal_call
call_so P s c refused f = search (require_so P, refused, f) depth 20

-- the steps of some items in turn of a call whose portal is permitted: the receiver is the portal's EC, whose domain has a PD
pub message_fits : (s : State) (c : Call) → Sound s → is_ec s c.caller ≡ true →
    let portal = object_place (caller_domain s c) c.first in
    permitted s portal PT call_bit ≡ true → (n : ℕ) →
    FitInTurn (carried s (caller_domain s c) (s.objects (s.objects (object_in s portal) ec_word) domain_word) c.source c.target n).effects s
message_fits s c k e p n =
    let here = caller_domain s c in
    let portal = object_place here c.first in
    let callee = s.objects (object_in s portal) ec_word in
    let there = s.objects callee domain_word in
    let is_callee = portal_ec s k (object_in s portal) (own_record s k c.caller c.first PT call_bit e p) (permitted_kind s portal PT call_bit p) in
    let at_home = ec_home s k callee is_callee in
    (carried_fits s here there c.source c.target (home s k here (ec_home s k c.caller e)).small (home s k there at_home).small at_home n).fit

pub call_fits : (s : State) (c : Call) → Sound s → is_ec s c.caller ≡ true → FitInTurn (effects_of (portal_call s c)) s
call_fits s c k e =
    call_so (λ (verdict : Verdict). FitInTurn (effects_of verdict) s) s c (λ reply. tt) (λ p. message_fits s c k e p (typed_count (word c.source 0)))
