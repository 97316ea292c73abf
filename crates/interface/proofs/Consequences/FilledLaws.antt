-- Delegation adds no permission: what the steps of each call leave of live places, and how they fill null ones.
use Prim.Native.Nat.{ℕ, ◌+◌, ◌^◌, ◌<◌}
use mathlib.Core.Path.{◌≡◌, refl, sym, ap, ◌∙◌, subst}
use mathlib.Core.Bool.{Bool, true, false, not, ◌&&◌, ◌||◌}
use mathlib.Core.Logic.{◌⊎◌, inl, inr}
use mathlib.Core.List.{List, [], ◌∷◌, ◌++◌}
use native.Mathlib.Omega.{arith}
use lib.Dec.{eqb}
use borrow.Author.Tests.{eq-eqb, eqb-true, eqb-false, ltb-true, ltb-false}
use Rattle.reply.specs.declared.Refusal.{Refusal}
use Rattle.words.specs.Sizes.{domains, object, selectors, place_of}
use Rattle.words.specs.Permissions.{revoked}
use Rattle.words.proofs.PlaceLaws.{selector_back}
use Rattle.descriptor.specs.Descriptors.{Proper}
use Rattle.descriptor.specs.declared.Range.{Range}
use Rattle.descriptor.specs.declared.Reading.{Reading}
use Rattle.descriptor.specs.declared.Reading.TheVariants.{Null, Malformed, Good}
use Rattle.reply.specs.Replies.{Reply}
use Rattle.reply.specs.declared.Refusal.TheVariants.{BadHyp, BadPar, Damaged}
use Rattle.descriptor.proofs.DescriptorLaws.{good_proper}
use Rattle.interface.specs.Basics.{word}
use Rattle.interface.specs.Places.{Cap, State, live, parentless, free, kind_word, kind_of, greatest_of, object_place, object_in}
use Rattle.interface.specs.Damage.{sound_state, is_ec}
use Rattle.interface.specs.RangeDescriptors.{reading, malformed}
use Rattle.interface.specs.Effects.{Effect, hold, count, among, below, stripped, cut_caps, act, run}
use Rattle.interface.specs.Verdicts.{Call, CALL, CREATE_PD, CREATE_EC, CREATE_SC, CREATE_PT, CREATE_SM, REVOKE, LOOKUP, SM_CTRL, Verdict, refuse, grant, require◌else◌then◌, effects_of, caller_domain}
use Rattle.interface.specs.Creations.{new_place, free_record, next_domain, Creation, creation, initial_good, initial_gives, create_pd, create_ec, create_sc, create_pt, create_sm}
use Rattle.interface.specs.Revoke.{cuts, revoke}
use Rattle.interface.specs.Lookup.{found, lookup}
use Rattle.interface.specs.Semaphores.{sm_ctrl}
use Rattle.interface.specs.Message.{typed_count}
use Rattle.interface.specs.PortalCalls.{portal_call}
use Rattle.interface.specs.Rules.{not_built, hypercall, called, rules, after}
use Rattle.interface.specs.Consequences.{Delegates, this_one, later_one, callee_domain, AskedByItem, AskedByRange, kind_created, FilledBy, by_delegation, by_creation, AddsNoPermission}
use Rattle.interface.proofs.Basics.BoolLaws.{cases, not_both, either_way}
use Rattle.interface.proofs.Basics.PutLaws.{put_same, put_other}
use Rattle.interface.proofs.Sound.Soundness.{Sound, sound_facts}
use Rattle.interface.proofs.Sound.SoundObjects.{free_there}
use Rattle.interface.proofs.Tables.TurnLaws.{run_append, require_so}
use Rattle.interface.proofs.Sound.RevokeFits.{revoke_so}
use Rattle.interface.proofs.Sound.SemaphoresFit.{semaphore_so}
use Rattle.interface.proofs.Sound.MessageFits.{call_so}
use Rattle.interface.proofs.Sound.RulesFit.{or_else}
use Rattle.interface.proofs.History.CutLaws.{stripped_none}
use Rattle.interface.proofs.Sound.CreationsFit.{stored, stored_words, Granted, steps_of, granted_so, Initial, no_initial, pd_initial}
use Rattle.interface.proofs.Deliveries.DelegationLaws.{given_still, OnlyGives, gives_none, gives_keep, gives_filled, listed_gives, selected_inside, carried_gives}

-- a step of some steps is one of those and more
delegates_more : {place source mask : ℕ} {steps : List Effect} (more : List Effect) → Delegates place source mask steps → Delegates place source mask (steps ++ more)
delegates_more more this_one = this_one
delegates_more more (later_one step) = later_one (delegates_more more step)

module _ (s : State) (c : Call) where
  -- a delegation that the call asks for
  abbrev Asks : ℕ → ℕ → ℕ → Type 0
  Asks place source mask = AskedByItem s c place source mask ⊎ AskedByRange s c place source mask

  -- a verdict whose steps change no live place, unless the call is REVOKE, and fill null ones as the call asks
  record Adds (verdict : Verdict) : Type 0 where
    keeps : (c.number ≡ REVOKE → ⊥) → (place : ℕ) → live (s.caps place) ≡ true → (run (effects_of verdict) s).caps place ≡ s.caps place
    fills_so : (place : ℕ) → live (s.caps place) ≡ false → live ((run (effects_of verdict) s).caps place) ≡ true →
        FilledBy s c (effects_of verdict) (run (effects_of verdict) s) place

  -- steps that leave each place are such, and so are none
  stays_adds : (verdict : Verdict) → ((place : ℕ) → (run (effects_of verdict) s).caps place ≡ s.caps place) → Adds verdict
  stays_adds verdict same =
      record {
        keeps = λ other_call place t. same place;
        fills_so = λ place n t. not_both (live (s.caps place)) (rw (same place) at t) n;
      }

  refusal_adds : (refusal : Refusal) → Adds (refuse refusal)
  unfolding run
  refusal_adds reply = stays_adds (refuse reply) (λ place. refl)

  -- a check of a rule has the steps of what follows it, or none
  require_adds : (test : Bool) (refusal : Refusal) (next : Verdict) → (test ≡ true → Adds next) → Adds (require test else refusal then next)
  require_adds test reply next = require_so Adds test reply next (refusal_adds reply)

  -- CALL's steps are its message's
  call_adds : c.number ≡ CALL → Adds (portal_call s c)
  call_adds n =
      let here = caller_domain s c in
      let there = callee_domain s c in
      let steps =
      carried_gives Asks s here there c.source c.target (typed_count (word c.source 0))
      (λ i l item window bit read window_read same place source own from at to.
      inl
      (record {
        is_call = n;
        item = i;
        is_item = l;
        asks_delegate = bit;
        range = item;
        item_read = read;
        window = window;
        window_read = window_read;
        same_space = same;
        own_source = own;
        source_inside = from;
        callee_place = at;
        place_inside = to;
        item_mask = refl;
      })) in
      call_so Adds s c refusal_adds
      (λ _.
      record {
        keeps = λ other_call. gives_keep steps s;
        fills_so =
            λ place null t.
            let (source, mask, step, asked, given) = gives_filled steps s place null t in by_delegation source mask asked step given;
      })

  -- a creation's steps are its delegations, once its object is stored, and then the new place's filling
  module _ (new : Creation) (asked : OnlyGives Asks new.delegations) (is_creation : kind_created c.number ≡ free → ⊥)
      (of_kind : word new.words kind_word ≡ kind_created c.number) where
    steps_add : Granted s c new → Initial s c new → Adds (grant 0 (steps_of s c new))
    unfolding run act
    steps_add granted initial =
        let number = free_record s in
        let before = stored s new.words in
        let last = run new.delegations before in
        let later = act (hold (new_place s c) number) last in
        let ends : run (steps_of s c new) s ≡ later = run_append new.delegations (hold (new_place s c) number ∷ []) before in
        let new_words : last.objects number ≡ word new.words =
        ap (λ (o : ℕ → ℕ → ℕ). o number) initial.steps.objects_stay ∙ stored_words s new.words in
        let kind : kind_of last number ≡ kind_created c.number = ap (λ (w : ℕ → ℕ). w kind_word) new_words ∙ of_kind in
        let null : live (last.caps (new_place s c)) ≡ false = rw initial.place_stays granted.null in
        let others : (place : ℕ) → (place ≡ new_place s c → ⊥) → later.caps place ≡ last.caps place =
        put_other last.caps (new_place s c) (parentless number (greatest_of (kind_of last number))) in
        record {
          keeps =
              λ other_call place t.
              rw ends (others place (λ e. not_both (live (s.caps place)) t (rw e granted.null)) ∙ gives_keep asked before place t);
          fills_so =
              λ place n t.
              rw ends
              (cases (eqb place (new_place s c))
              (λ (here : eqb place (new_place s c) ≡ true).
              let e : place ≡ new_place s c = eqb-true place (new_place s c) here in
              by_creation
              (record {
                is_creation = is_creation;
                new_place_lem = e;
                was_free = free_there s granted.room;
                of_kind = kind;
                holds_greatest =
                    ap later.caps e ∙ put_same last.caps (new_place s c) (parentless number (greatest_of (kind_of last number))) ∙
                    ap (λ (k : ℕ). parentless number (greatest_of k)) kind;
              }))
              (λ (there : eqb place (new_place s c) ≡ false).
              let same = others place (eqb-false place (new_place s c) there) in
              let (source, mask, step, ask, given) = gives_filled asked before place n (rw (ends, same) at t) in
              let Source_stays = others source (λ e. not_both (live (last.caps source)) given.source_live (rw e null)) in
              by_delegation source mask ask (later_one (delegates_more (hold (new_place s c) number ∷ []) step))
              (given_still last later place source mask same Source_stays given)));
        }

  -- CREATE_PD asks for the delegations of its initial range
  initial_asked : c.number ≡ CREATE_PD → (read : Reading) → reading c.third ≡ read → ((range : Range) → read ≡ Good range → Proper range) → initial_good read ≡ true →
      OnlyGives Asks (initial_gives (caller_domain s c) (next_domain s) read)
  initial_asked n Null e p good = gives_none
  initial_asked n Malformed e p good = gives_none
  initial_asked n (Good range) e p good =
      let here = caller_domain s c in
      let objects_only : range.space ≡ object = eqb-true range.space object good in
      let proper = p range refl in
      listed_gives Asks (2 ^ range.order) (λ i. place_of (next_domain s) object (range.base + i)) (λ i. place_of here object (range.base + i)) _
      (λ i b.
      let selector = range.base + i in
      let source_in = selected_inside here range selector proper (omega arith) (omega arith) in
      let IsPlace_in = selected_inside (next_domain s) range selector proper (omega arith) (omega arith) in
      let small : selector < selectors range.space = omega (arith, proper.ends_inside) in
      subst (λ (space : ℕ). Asks (place_of (next_domain s) space selector) (place_of here space selector) range.mask) objects_only
      (inr
      (record {
        is_create_pd = n;
        range = range;
        range_read = e;
        of_objects = objects_only;
        own_source = source_in.1;
        source_inside = source_in.0;
        new_domain = IsPlace_in.1;
        same_space = IsPlace_in.0.of_space ∙ sym source_in.0.of_space;
        same_selector =
            selector_back (next_domain s) range.space selector proper.space_small small ∙
            sym (selector_back here range.space selector proper.space_small small);
        range_mask = refl;
      })))

  -- REVOKE fills no null place
  null_stays : (mask first size : ℕ) (self : Bool) (place : ℕ) → live (s.caps place) ≡ false → live (cut_caps mask first size self s.caps place) ≡ false
  unfolding cut_caps
  null_stays mask first size self place n =
      let none : (s.caps place).permissions ≡ 0 = omega (arith, ltb-false 0 (s.caps place).permissions n) in
      let left : revoked (s.caps place).permissions mask ≡ 0 = omega arith in
      let gone = stripped_none mask (s.caps place) (eq-eqb (revoked (s.caps place).permissions mask) 0 left) in
      either_way (λ (cap : Cap). live cap ≡ false) (below s.caps first size place || (self && among first size place)) (stripped mask (s.caps place)) (s.caps place)
      (rw gone) n

  cuts_fill_none : (domain : ℕ) (self : Bool) (read : Reading) (place : ℕ) → live (s.caps place) ≡ false → live ((run (cuts domain self read) s).caps place) ≡ false
  unfolding run act
  cuts_fill_none domain self Null place n = n
  cuts_fill_none domain self Malformed place n = n
  cuts_fill_none domain self (Good range) place n = null_stays range.mask (place_of domain range.space range.base) (2 ^ range.order) self place n

  revoke_adds : c.number ≡ REVOKE → Adds (revoke s c)
  revoke_adds n =
      let read = reading c.first in
      let steps = cuts (caller_domain s c) (eqb c.second 1) read in
      revoke_so Adds s c refusal_adds
      (record {
        keeps = λ other_call place t. absurd (other_call n);
        fills_so = λ place null t. not_both (live ((run steps s).caps place)) t (cuts_fill_none (caller_domain s c) (eqb c.second 1) read place null);
      })

  -- LOOKUP takes no steps
  lookup_adds : Adds (lookup s c)
  unfolding lookup run
  lookup_adds =
      let granted = grant (found s (caller_domain s c) (reading c.first)) [] in
      require_adds (not (malformed (reading c.first))) BadPar granted (λ _. stays_adds granted (λ place. refl))

  -- SM_CTRL's step leaves each place
  count_adds : (number value : ℕ) → Adds (grant 0 (count number value ∷ []))
  unfolding run act
  count_adds number value = stays_adds (grant 0 (count number value ∷ [])) (λ place. refl)

  semaphore_adds : Adds (sm_ctrl s c)
  semaphore_adds = semaphore_so Adds s c refusal_adds (λ p value. count_adds (object_in s (object_place (caller_domain s c) c.first)) value)

  -- the creations, by an EC on a sound state
  module _ (k : Sound s) (e : is_ec s c.caller ≡ true) where
    pd_adds : c.number ≡ CREATE_PD → Adds (create_pd s c)
    unfolding create_pd
    pd_adds n =
        let is_creation : kind_created c.number ≡ free → ⊥ = rw n (omega arith) in
        granted_so Adds s c _ refusal_adds
        (λ granted.
        steps_add _ (initial_asked n (reading c.third) refl (good_proper c.third) granted.parameters) is_creation (rw n) granted
        (pd_initial s c k e _ refl refl (ltb-true (next_domain s) domains granted.domain) granted.parameters granted.room))

  -- the others delegate nothing
  plain_adds : (new : Creation) → new.delegations ≡ [] → (kind_created c.number ≡ free → ⊥) → word new.words kind_word ≡ kind_created c.number → Adds (creation s c new)
  plain_adds new none is_creation of_kind =
      granted_so Adds s c new refusal_adds
      (λ granted. steps_add new (rw none gives_none) is_creation of_kind granted (no_initial s c new none))

  ec_adds : c.number ≡ CREATE_EC → Adds (create_ec s c)
  unfolding create_ec
  ec_adds n = plain_adds _ refl (rw n (omega arith)) (rw n)

  sc_adds : c.number ≡ CREATE_SC → Adds (create_sc s c)
  unfolding create_sc
  sc_adds n = plain_adds _ refl (rw n (omega arith)) (rw n)

  pt_adds : c.number ≡ CREATE_PT → Adds (create_pt s c)
  unfolding create_pt
  pt_adds n = plain_adds _ refl (rw n (omega arith)) (rw n)

  sm_adds : c.number ≡ CREATE_SM → Adds (create_sm s c)
  unfolding create_sm
  sm_adds n = plain_adds _ refl (rw n (omega arith)) (rw n)

  -- the rule of every number
  hypercall_adds : Sound s → Adds (called s c (hypercall c.number))
  unfolding hypercall called
  hypercall_adds k =
      let or_adds = or_else Adds s c refusal_adds in
      or_adds CALL portal_call _ (λ e. call_adds)
      (or_adds CREATE_PD create_pd _ (λ e. pd_adds k e)
      (or_adds CREATE_EC create_ec _ (λ e. ec_adds)
      (or_adds CREATE_SC create_sc _ (λ e. sc_adds)
      (or_adds CREATE_PT create_pt _ (λ e. pt_adds)
      (or_adds CREATE_SM create_sm _ (λ e. sm_adds)
      (or_adds REVOKE revoke _ (λ e. revoke_adds)
      (or_adds LOOKUP lookup _ (λ e n. lookup_adds)
      (or_adds SM_CTRL sm_ctrl not_built (λ e n. semaphore_adds)
      (refusal_adds BadHyp)))))))))

  rules_add : Adds (rules s c)
  unfolding rules
  rules_add = require_adds (sound_state s) Damaged (called s c (hypercall c.number)) (λ h. hypercall_adds (sound_facts s h))

-- a call's steps in turn make the state after it
pub adds_no_permission : AddsNoPermission
unfolding after
adds_no_permission = record { live_stays = λ s c. (rules_add s c).keeps; filled_so = λ s c. (rules_add s c).fills_so }
