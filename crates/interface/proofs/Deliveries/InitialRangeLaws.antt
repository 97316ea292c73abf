-- What CREATE_PD's initial range delivers: its delegations go from one domain to another, so each is what it would be alone.
use Rattle.std.specs.Prelude.{Ok}
use Rattle.reply.specs.Replies.{status_of}
use Rattle.reply.specs.declared.Refusal.TheVariants.{BadCap, BadCpu, BadPar, NoRoom}
use Prim.Native.Nat.{ℕ, zero, suc, ◌+◌, ◌^◌, ◌<◌}
use mathlib.Core.Path.{◌≡◌, refl, sym, ap, ◌∙◌, subst}
use mathlib.Core.Bool.{Bool, true, false, not, ◌&&◌}
use mathlib.Core.List.{List, [], ◌∷◌, ◌++◌}
use native.Mathlib.Omega.{arith}
use lib.Dec.{eqb, ltb}
use borrow.Author.Tests.{eqb-true, eq-eqb, ltb-true, ne_eqb}
use Rattle.words.specs.Sizes.{domains, object, selectors, domain_of, places, records}
use Rattle.words.proofs.PlaceLaws.{domain_back}
use Rattle.descriptor.specs.Descriptors.{Proper}
use Rattle.descriptor.specs.declared.Range.{Range}
use Rattle.descriptor.specs.declared.Reading.{Reading}
use Rattle.descriptor.specs.declared.Reading.TheVariants.{Null, Malformed, Good}
use Rattle.descriptor.proofs.DescriptorLaws.{good_proper, proper_end}
use Rattle.interface.specs.Basics.{word, listed, any_below}
use Rattle.interface.specs.Places.{Cap, State, live, nothing, PD, kind_word, domain_word, kind_of, parentless, greatest_of, permitted, create_bit}
use Rattle.interface.specs.Boot.{hypervisor}
use Rattle.interface.specs.Damage.{is_ec}
use Rattle.interface.specs.RangeDescriptors.{reading}
use Rattle.interface.specs.Effects.{Effect, give, hold, handed, act, run, make}
use Rattle.interface.specs.Verdicts.{Call, Verdict, grant, effects_of, caller_domain, CREATE_PD, reply_of, require◌else◌then◌}
use Rattle.interface.specs.Creations.{new_place, free_record, next_domain, Creation, initial_good, initial_gives, create_pd, creation, pd_place}
use Rattle.interface.specs.Rules.{hypercall, after, rules}
use Rattle.interface.specs.Deliveries.{Due, initial_source, initial_destination, RangeDelivered, DeliversRange}
use Rattle.interface.proofs.Basics.BoolLaws.{cases, not_both}
use Rattle.interface.proofs.Basics.BelowLaws.{below_suc, any_below_lem, any_below_at}
use Rattle.interface.proofs.Basics.PutLaws.{put_other}
use Rattle.interface.proofs.Sound.Soundness.{Sound, sound_facts}
use Rattle.interface.proofs.Sound.PlaceFacts.{null_cap, live_facts}
use Rattle.interface.proofs.Sound.SoundFacts.{object_place_domain, home, ec_home}
use Rattle.interface.proofs.Tables.TurnLaws.{run_append, give_others, gives, gives_others}
use Rattle.interface.proofs.Tables.VerdictLaws.{rule_grants, rule_checked, after_verdict, rule_succeeds}
use Rattle.interface.proofs.Sound.CreationsFit.{stored, stored_words, Granted, steps_of, granted_so, Initial, pd_initial}
use Rattle.interface.proofs.Deliveries.DelegationLaws.{give_hands}
use Rattle.interface.proofs.Deliveries.DeliveryLaws.{due_fills, handed_delegated, not_due_same}

-- a delegation depends on its two places alone
module _ (s t : State) (destination source mask : ℕ) (same : t.caps destination ≡ s.caps destination) (same_source : t.caps source ≡ s.caps source) where
  due_there : Due s destination source mask → Due t destination source mask
  due_there due =
      record {
        source_live = rw same_source due.source_live;
        depth_left = rw same_source due.depth_left;
        destination_null = rw same due.destination_null;
        permissions_left = rw same_source due.permissions_left;
      }

-- what a delegation that is due leaves, on a state that shows the same at its two places
give_due : (s t : State) (destination source mask : ℕ) → t.caps destination ≡ s.caps destination → t.caps source ≡ s.caps source →
    Due s destination source mask → (act (give destination source mask) t).caps destination ≡ handed (s.caps source) source mask
give_due s t destination source mask same same_source due =
    give_hands destination source mask t (due_fills t destination source mask (due_there s t destination source mask same same_source due)) ∙
    ap (λ (cap : Cap). handed cap source mask) same_source

-- and one that is not
give_not_due : (s t : State) (destination source mask : ℕ) → t.caps destination ≡ s.caps destination → t.caps source ≡ s.caps source →
    (Due s destination source mask → ⊥) → (act (give destination source mask) t).caps destination ≡ s.caps destination
give_not_due s t destination source mask same same_source not_due =
    let still = not_due_same t destination source mask (λ due. not_due (due_there t s destination source mask (sym same) (sym same_source) due)) in
    ap (λ (later : State). later.caps destination) still.0 ∙ same

-- delegations to places that are apart from each other and from every source
module _ (destination source mask : ℕ → ℕ) (size : ℕ)
    (apart : (i j : ℕ) → i < size → j < size → destination i ≡ destination j → i ≡ j)
    (apart_source : (i j : ℕ) → i < size → j < size → source i ≡ destination j → ⊥) where
  -- the state before one shows at its two places what the first state does
  pub alone_before : (s : State) (n : ℕ) → n < size →
      ((run (gives destination source mask n) s).caps (destination n) ≡ s.caps (destination n)) ×
      ((run (gives destination source mask n) s).caps (source n) ≡ s.caps (source n))
  alone_before s n l = (
    gives_others destination source mask n s (destination n) (λ i b e. let same = apart n i l (omega arith) e in omega arith),
    gives_others destination source mask n s (source n) (λ i b e. apart_source n i l (omega arith) e),
  )

  -- and those after it leave its destination
  pub alone_after : (s : State) (n i : ℕ) → i < n → n < suc size →
      (run (gives destination source mask n) s).caps (destination i) ≡
      (act (give (destination i) (source i) (mask i)) (run (gives destination source mask i) s)).caps (destination i)
  unfolding listed run
  alone_after s zero i l b = absurd (omega arith)
  alone_after s (suc n) i l b =
      let ends = run_append (gives destination source mask n) (give (destination n) (source n) (mask n) ∷ []) s in
      ap (λ (later : State). later.caps (destination i)) ends ∙
      below_suc i n l
      (λ (k : i < n).
      give_others (destination n) (source n) (mask n) (run (gives destination source mask n) s) (destination i)
      (λ e. let same = apart i n (omega arith) (omega arith) e in omega arith) ∙
      alone_after s n i k (omega arith))
      (λ (e : i ≡ n). rw e)

module _ (s : State) (c : Call) (k : Sound s) (e : is_ec s c.caller ≡ true) where
  -- the domain that a new PD takes is empty
  next_empty : (place : ℕ) → place < places → domain_of place ≡ next_domain s → s.caps place ≡ nothing
  next_empty place l at =
      null_cap s place (k.nulls place l)
      (cases (live (s.caps place))
      (λ (t : live (s.caps place) ≡ true).
      let here = (live_facts s place (k.lives place l) t).home in
      let other : eqb (domain_of place) hypervisor ≡ false = ne_eqb (domain_of place) hypervisor (λ zeroth. omega arith) in
      let taken = (home s k (domain_of place) (rw other at here)).taken in
      absurd (omega arith))
      (λ (f : live (s.caps place) ≡ false). f))

  -- the caller's domain is another
  caller_apart : caller_domain s c ≡ next_domain s → ⊥
  caller_apart same = let taken = (home s k (caller_domain s c) (ec_home s k c.caller e)).taken in omega arith

  new_place_apart : (place : ℕ) → domain_of place ≡ next_domain s → place ≡ new_place s c → ⊥
  new_place_apart place at same = caller_apart (sym (object_place_domain (caller_domain s c) c.first) ∙ ap domain_of (sym same) ∙ at)

  -- the offsets of an initial range
  module _ (range : Range) (proper : Proper range) where
    selector_small : (i : ℕ) → i < 2 ^ range.order → range.base + i < selectors object
    selector_small i l = omega (arith, proper_end proper)

    destination_domain : (i : ℕ) → i < 2 ^ range.order → domain_of (initial_destination s range i) ≡ next_domain s
    destination_domain i l = domain_back (next_domain s) object (range.base + i) (omega arith) (selector_small i l)

    source_domain_lem : (i : ℕ) → i < 2 ^ range.order → domain_of (initial_source s c range i) ≡ caller_domain s c
    source_domain_lem i l = domain_back (caller_domain s c) object (range.base + i) (omega arith) (selector_small i l)

    destinations_apart : (i j : ℕ) → i < 2 ^ range.order → j < 2 ^ range.order → initial_destination s range i ≡ initial_destination s range j → i ≡ j
    destinations_apart i j l m same = omega arith

    sources_apart : (i j : ℕ) → i < 2 ^ range.order → j < 2 ^ range.order → initial_source s c range i ≡ initial_destination s range j → ⊥
    sources_apart i j l m same = caller_apart (sym (source_domain_lem i l) ∙ ap domain_of same ∙ destination_domain j m)

    abbrev range_gives : List Effect
    range_gives = gives (initial_destination s range) (initial_source s c range) (λ i. range.mask) (2 ^ range.order)

    module _ (t : State) (same : t.caps ≡ s.caps) (i : ℕ) (l : i < 2 ^ range.order) where
      abbrev earlier : State
      earlier = run (gives (initial_destination s range) (initial_source s c range) (λ i. range.mask) i) t

      earlier_same : (earlier.caps (initial_destination s range i) ≡ s.caps (initial_destination s range i)) ×
          (earlier.caps (initial_source s c range i) ≡ s.caps (initial_source s c range i))
      earlier_same =
          let alone = alone_before (initial_destination s range) (initial_source s c range) (λ i. range.mask) (2 ^ range.order) destinations_apart sources_apart t i l in
          (alone.0 ∙ (rw same), alone.1 ∙ (rw same))

      range_ends : (run range_gives t).caps (initial_destination s range i) ≡
          (act (give (initial_destination s range i) (initial_source s c range i) range.mask) earlier).caps (initial_destination s range i)
      range_ends =
          alone_after (initial_destination s range) (initial_source s c range) (λ i. range.mask) (2 ^ range.order) destinations_apart sources_apart t (2 ^ range.order) i l
          (omega arith)

      range_due : Due s (initial_destination s range i) (initial_source s c range i) range.mask →
          (run range_gives t).caps (initial_destination s range i) ≡ handed (s.caps (initial_source s c range i)) (initial_source s c range i) range.mask
      range_due due =
          range_ends ∙
          give_due s earlier (initial_destination s range i) (initial_source s c range i) range.mask earlier_same.0 earlier_same.1 due

      range_not_due : (Due s (initial_destination s range i) (initial_source s c range i) range.mask → ⊥) →
          (run range_gives t).caps (initial_destination s range i) ≡ s.caps (initial_destination s range i)
      range_not_due not_due =
          range_ends ∙
          give_not_due s earlier (initial_destination s range i) (initial_source s c range i) range.mask earlier_same.0 earlier_same.1 not_due

    range_others : (t : State) → t.caps ≡ s.caps → (place : ℕ) →
        ((i : ℕ) → i < 2 ^ range.order → place ≡ initial_destination s range i → Due s place (initial_source s c range i) range.mask → ⊥) →
        (run range_gives t).caps place ≡ s.caps place
    range_others t same place not_due =
        let here : ℕ → Bool = λ i. eqb place (initial_destination s range i) in
        let size = 2 ^ range.order in
        cases (any_below size here)
        (λ (some : any_below size here ≡ true).
        let (i, l, found) = any_below_at size here some in
        let at : place ≡ initial_destination s range i = eqb-true place (initial_destination s range i) found in
        ap (run range_gives t).caps at ∙ range_not_due t same i l (λ due. not_due i l at (subst (λ (p : ℕ). Due s p (initial_source s c range i) range.mask) (sym at) due)) ∙ ap s.caps (sym at))
        (λ (none : any_below size here ≡ false).
        gives_others (initial_destination s range) (initial_source s c range) (λ i. range.mask) size t place
        (λ i l at. not_both (any_below size here) (any_below_lem size here i l (eq-eqb place (initial_destination s range i) at)) none) ∙
        (rw same))

  -- the initial delegations, whatever the descriptor
  module _ (t : State) (same : t.caps ≡ s.caps) where
    abbrev initial_steps : List Effect
    initial_steps = initial_gives (caller_domain s c) (next_domain s) (reading c.third)

    initial_due : (range : Range) → reading c.third ≡ Good range → (offset : ℕ) → offset < 2 ^ range.order →
        Due s (initial_destination s range offset) (initial_source s c range offset) range.mask →
        (run initial_steps t).caps (initial_destination s range offset) ≡
        handed (s.caps (initial_source s c range offset)) (initial_source s c range offset) range.mask
    initial_due range read offset l due = rw read (range_due range (good_proper c.third range read) t same offset l due)

    initial_others : (place : ℕ) → (read : Reading) → ((range : Range) → read ≡ Good range → Proper range) →
        ((range : Range) → read ≡ Good range → (offset : ℕ) → offset < 2 ^ range.order → place ≡ initial_destination s range offset →
        Due s place (initial_source s c range offset) range.mask → ⊥) →
        (run (initial_gives (caller_domain s c) (next_domain s) read) t).caps place ≡ s.caps place
    unfolding run
    initial_others place Null proper not_due = rw same
    initial_others place Malformed proper not_due = rw same
    initial_others place (Good range) proper not_due = range_others range (proper range refl) t same place (not_due range refl)

  -- a creation of a PD, once it has been checked
  module _ (new : Creation) (w : new.words ≡ PD ∷ next_domain s ∷ []) (d : new.delegations ≡ initial_gives (caller_domain s c) (next_domain s) (reading c.third))
      (good : initial_good (reading c.third) ≡ true) (initial : Initial s c new) (ends : after s c ≡ run (steps_of s c new) s) where
    abbrev made : State
    made = stored s new.words

    abbrev last : State
    last = run new.delegations made

    after_last : after s c ≡ act (hold (new_place s c) (free_record s)) last
    unfolding run
    after_last = ends ∙ run_append new.delegations (hold (new_place s c) (free_record s) ∷ []) made

    after_other : (place : ℕ) → domain_of place ≡ next_domain s → (after s c).caps place ≡ last.caps place
    unfolding act
    after_other place at =
        ap (λ (later : State). later.caps place) after_last ∙
        put_other last.caps (new_place s c) (parentless (free_record s) (greatest_of (kind_of last (free_record s)))) place (new_place_apart place at)

    new_words : (after s c).objects (free_record s) ≡ word (PD ∷ next_domain s ∷ [])
    unfolding act
    new_words =
        ap (λ (later : State). later.objects (free_record s)) after_last ∙ ap (λ (o : ℕ → ℕ → ℕ). o (free_record s)) initial.steps.objects_stay ∙
        stored_words s new.words ∙ ap word w

    range_delivered : RangeDelivered s c
    unfolding act
    range_delivered =
        record {
          new_domain = (ap (λ (words : ℕ → ℕ). words kind_word) new_words, ap (λ (words : ℕ → ℕ). words domain_word) new_words);
          was_empty = next_empty;
          of_objects = λ range read. eqb-true range.space object (rw read at good);
          due_filled =
              λ range read offset l due.
              let destination = initial_destination s range offset in
              let at = destination_domain range (good_proper c.third range read) offset l in
              handed_delegated s (after s c) destination (initial_source s c range offset) range.mask
              (after_other destination at ∙ (rw d (initial_due made refl range read offset l due)));
          others_empty =
              λ place l at not_due.
              after_other place at ∙ (rw d (initial_others made refl place (reading c.third) (good_proper c.third) not_due)) ∙ next_empty place l at;
        }

  granted_delivers : {new : Creation} → Granted s c new → new.words ≡ PD ∷ next_domain s ∷ [] →
      new.delegations ≡ initial_gives (caller_domain s c) (next_domain s) (reading c.third) → initial_good (reading c.third) ≡ true → next_domain s < domains →
      after s c ≡ run (steps_of s c new) s → RangeDelivered s c
  granted_delivers {new} granted w d good l ends = range_delivered new w d good (pd_initial s c k e new w d l good granted.room) ends

-- a CREATE_PD that succeeds passed its six checks, and grants
six_passed : (null held bound cpu good room : Bool) (last : Verdict) (answer : ℕ) →
    let all =
    require null else BadCap then require held else BadCap then require bound else BadCap then require cpu else BadCpu then
    require good else BadPar then require room else NoRoom then last in
    reply_of all ≡ Ok answer → all ≡ last
six_passed true true true true true true last answer h = refl
six_passed true true true true true false last answer h = absurd (omega (arith, ap status_of h))
six_passed true true true true false room last answer h = absurd (omega (arith, ap status_of h))
six_passed true true true false good room last answer h = absurd (omega (arith, ap status_of h))
six_passed true true false cpu good room last answer h = absurd (omega (arith, ap status_of h))
six_passed true false bound cpu good room last answer h = absurd (omega (arith, ap status_of h))
six_passed false held bound cpu good room last answer h = absurd (omega (arith, ap status_of h))

pd_grants : (s : State) (c : Call) (answer : ℕ) → c.number ≡ CREATE_PD → reply_of (rules s c) ≡ Ok answer →
    (effects : List Effect) × (rules s c ≡ grant 0 effects)
unfolding hypercall create_pd creation
pd_grants s c answer n h =
    let by_rule = rule_succeeds s c answer create_pd (rw n) h in
    let steps =
    make (free_record s) (PD ∷ next_domain s ∷ []) ∷ initial_gives (caller_domain s c) (next_domain s) (reading c.third) ++
    (hold (new_place s c) (free_record s) ∷ []) in (
      steps,
      by_rule ∙
          six_passed (not (live (s.caps (new_place s c)))) (permitted s (pd_place s c) PD (create_bit PD)) true true (initial_good (reading c.third))
          (ltb (free_record s) records && ltb (next_domain s) domains) (grant 0 steps) answer (ap reply_of (sym by_rule) ∙ h),
    )

pub delivers_range : DeliversRange
unfolding hypercall create_pd
delivers_range s c answer n succeeds =
    let (effects, h) = pd_grants s c answer n succeeds in
    let given = grant 0 effects in
    let checked = rule_checked given refl s c h create_pd (rw n) in
    granted_so (λ (verdict : Verdict). verdict ≡ given → RangeDelivered s c) s c _
    (λ reply never. let z : ◌≡◌ {A = ℕ} 0 1 = cc in absurd (omega arith))
    (λ granted same.
    granted_delivers s c (sound_facts s checked.0) checked.1 granted refl refl granted.parameters (ltb-true (next_domain s) domains granted.domain)
    (after_verdict s c given h ∙ ap (λ (verdict : Verdict). run (effects_of verdict) s) (sym same)))
    (rule_grants given refl s c h create_pd (rw n))
