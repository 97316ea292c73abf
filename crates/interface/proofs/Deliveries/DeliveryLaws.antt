-- What CALL's items deliver: how far a message has come before each offset, one delegation at a time.
use Rattle.std.specs.Prelude.{Ok, Err}
use Rattle.reply.specs.Replies.{status_of}
use Prim.Native.Nat.{ℕ, suc, ◌+◌, ◌*◌, ◌≤◌, ◌<◌}
use mathlib.Core.Path.{◌≡◌, refl, sym, ap, ◌∙◌}
use mathlib.Core.Bool.{true, false, not, ◌&&◌, Bool}
use mathlib.Core.List.{List, [], ◌∷◌}
use native.Mathlib.Decide.{le_ind}
use native.Mathlib.Nat.{le_refl, add-zero, add_assoc}
use native.Mathlib.Omega.{arith}
use lib.Bits.{bit_and}
use lib.Dec.{eqb, ltb}
use lib.ListN.{length, take, drop, take-append-drop}
use lib.Seq.{take_all}
use borrow.Author.Tests.{leb-true, eqb-true, eqb-false, eq-eqb, ne_eqb, ltb-true, lt-ltb, not-true}
use Rattle.words.specs.Sizes.{domains, greatest_depth, block_words}
use Rattle.descriptor.specs.declared.Range.{Range}
use Rattle.descriptor.specs.Descriptors.{Match}
use Rattle.descriptor.specs.declared.Reason.{Reason}
use Rattle.reply.specs.declared.Refusal.TheVariants.{ComTim, BadCap, BadPar, BadCpu}
use Rattle.descriptor.proofs.DescriptorLaws.{matched_both, matched_good}
use Rattle.interface.specs.Basics.{word, listed}
use Rattle.interface.specs.Places.{Cap, State, live, PT, ec_word, cpu_word, call_bit, object_place, permitted, object_in, domain_word}
use Rattle.interface.specs.Damage.{sound_state}
use Rattle.interface.specs.RangeDescriptors.{reading, matched}
use Rattle.interface.specs.Effects.{Effect, give, fills, handed, act, run, fills_one, filled}
use Rattle.interface.specs.Verdicts.{Call, CALL, deliver, require◌else◌then◌, caller_domain, Verdict, reply_of}
use Rattle.interface.specs.Message.{translate_window, delegate_window, payload_words, untyped_count, item_words, delegate_bit, payload_fits, descriptor_at, second_at, Item, Moved, delegate_item, translate_item, source_domain, item_of, carried, transfer}
use Rattle.interface.specs.PortalCalls.{portal_call}
use Rattle.interface.specs.Rules.{hypercall, rules, after}
use Rattle.interface.specs.Consequences.{callee_domain}
use Rattle.interface.specs.Deliveries.{Due, Delegated, DelegatesTo, TranslatesTo, offsets, item_count, source_at, destination_at, Reached, before, ItemDelivered, DeliversItems}
use Rattle.interface.proofs.Basics.BoolLaws.{cases, and_left, and_right, each_of_four}
use Rattle.interface.proofs.Sound.Soundness.{sound_facts, facts_sound}
use Rattle.interface.proofs.History.Sequences.{run_sound}
use Rattle.interface.proofs.Sound.SoundFacts.{home, ec_home}
use Rattle.interface.proofs.Sound.MessageFits.{message_fits}
use Rattle.interface.proofs.Tables.VerdictLaws.{required, rule_grants, rule_checked, after_verdict, success_same, rule_succeeds}
use Rattle.interface.proofs.Tables.TurnLaws.{run_append, filled_append, give_others}
use Rattle.interface.proofs.Tables.TableLaws.{length_listed, take_listed}
use Rattle.interface.proofs.History.NoteLaws.{fills_leaves}
use Rattle.interface.proofs.Deliveries.DelegationLaws.{give_hands, gives_keep, gives_drop, item_gives, carried_gives}
use Rattle.interface.proofs.Deliveries.TransferLaws.{AnyGive, any_item, gives_anywhere}

-- One delegation.

-- it is due exactly where it fills
pub due_fills : (s : State) (destination source mask : ℕ) → Due s destination source mask → fills s.caps destination source mask ≡ true
unfolding fills
due_fills s destination source mask due =
    rw (due.source_live, lt-ltb (s.caps source).depth greatest_depth due.depth_left, due.destination_null, ne_eqb (bit_and (s.caps source).permissions mask) 0 due.permissions_left)

pub fills_due : (s : State) (destination source mask : ℕ) → fills s.caps destination source mask ≡ true → Due s destination source mask
unfolding fills
fills_due s destination source mask h =
    let left = eqb (bit_and (s.caps source).permissions mask) 0 in
    let (alive, depth, null, some) =
    each_of_four (live (s.caps source)) (ltb (s.caps source).depth greatest_depth) (not (live (s.caps destination))) (not left) h in
    record {
      source_live = alive;
      depth_left = ltb-true (s.caps source).depth greatest_depth depth;
      destination_null = not-true (live (s.caps destination)) null;
      permissions_left = eqb-false (bit_and (s.caps source).permissions mask) 0 (not-true left some);
    }

-- what is handed is what is delegated
pub handed_delegated : (s later : State) (destination source mask : ℕ) → later.caps destination ≡ handed (s.caps source) source mask →
    Delegated s later destination source mask
handed_delegated s later destination source mask e =
    record {
      same_resource = ap (λ (cap : Cap). cap.resource) e;
      masked_permissions = ap (λ (cap : Cap). cap.permissions) e;
      source_is_parent = ap (λ (cap : Cap). cap.parent) e;
      one_deeper = ap (λ (cap : Cap). cap.depth) e;
    }

-- a delegation that is not due changes nothing, and counts nothing
pub not_due_same : (s : State) (destination source mask : ℕ) → (Due s destination source mask → ⊥) →
    (act (give destination source mask) s ≡ s) × (fills_one (give destination source mask) s ≡ 0)
unfolding act fills_one
not_due_same s destination source mask n =
    cases (fills s.caps destination source mask)
    (λ (t : fills s.caps destination source mask ≡ true). absurd (n (fills_due s destination source mask t)))
    (λ (f : fills s.caps destination source mask ≡ false). (rw f, rw f))

pub due_counts : (s : State) (destination source mask : ℕ) → Due s destination source mask → fills_one (give destination source mask) s ≡ 1
unfolding fills_one
due_counts s destination source mask due = rw (due_fills s destination source mask due)

-- an item that is not matched with its window is null, and takes no step; and one that translates takes none
unmatched_none : (match : Match) (now : State) (sender receiver second : ℕ) → ((range window : Range) → match ≡ Ok (range, window) → ⊥) →
    (reason : Reason) × (delegate_item now sender receiver second match ≡ record { received = Err reason; effects = [] })
unfolding delegate_item
unmatched_none (Err reason) now sender receiver second other = (reason, refl)
unmatched_none (Ok (range, window)) now sender receiver second other = absurd (other range window refl)

translate_unmatched : (match : Match) (now : State) (sender receiver : ℕ) → ((range window : Range) → match ≡ Ok (range, window) → ⊥) →
    (reason : Reason) × (translate_item now sender receiver match ≡ record { received = Err reason; effects = [] })
unfolding translate_item
translate_unmatched (Err reason) now sender receiver other = (reason, refl)
translate_unmatched (Ok (range, window)) now sender receiver other = absurd (other range window refl)

translate_none : (match : Match) (now : State) (sender receiver : ℕ) → (translate_item now sender receiver match).effects ≡ []
unfolding translate_item
translate_none (Err reason) now sender receiver = refl
translate_none (Ok (range, window)) now sender receiver = refl

module _ (s : State) (c : Call) where
  -- the message before an item, and the item's outcome
  abbrev pub moved_before : ℕ → Moved
  moved_before item = carried s (caller_domain s c) (callee_domain s c) c.source c.target item

  abbrev pub state_before : ℕ → State
  state_before item = run (moved_before item).effects s

  abbrev pub outcome : ℕ → Item
  outcome item = item_of (state_before item) (caller_domain s c) (callee_domain s c) c.source c.target item

  -- before an item's first offset stand the items before it
  pub before_first : (item : ℕ) → before s c item 0 ≡ record { state = state_before item; count = (moved_before item).filled }
  unfolding before run filled
  before_first item = rw add-zero

  -- once all an item's steps have been taken, the next item follows
  pub before_next : (item offset : ℕ) → length (outcome item).effects ≤ offset → before s c (suc item) 0 ≡ before s c item offset
  unfolding before carried
  before_next item offset l =
      before_first (suc item) ∙
      (rw (take_all offset (outcome item).effects l, run_append (moved_before item).effects (outcome item).effects s))

  -- what is live before an offset stays to the end of its item, and of the message
  kept_to_next : (item offset place : ℕ) → live ((before s c item offset).state.caps place) ≡ true →
      (state_before (suc item)).caps place ≡ (before s c item offset).state.caps place
  unfolding before carried
  kept_to_next item offset place t =
      let steps = (outcome item).effects in
      let asks = any_item (caller_domain s c) (callee_domain s c) c.source c.target item in
      let gives = item_gives AnyGive (state_before item) (caller_domain s c) (callee_domain s c) c.source c.target item asks in
      let here = run (take offset steps) (state_before item) in
      let parts = ap (λ (list : List Effect). run list (state_before item)) (sym (take-append-drop offset steps)) in
      let ends = run_append (moved_before item).effects steps s ∙ parts ∙ run_append (take offset steps) (drop offset steps) (state_before item) in
      ap (λ (later : State). later.caps place) ends ∙ gives_keep (gives_drop gives offset) here place t

  pub kept_after : (item offset place n : ℕ) → item < n → live ((before s c item offset).state.caps place) ≡ true →
      (state_before n).caps place ≡ (before s c item offset).state.caps place
  kept_after item offset place n l t =
      le_ind (λ (m : ℕ). (state_before m).caps place ≡ (before s c item offset).state.caps place) (kept_to_next item offset place t)
      (λ m b ih.
      let first = ap (λ (reached : Reached). reached.state.caps place) (before_first m) in
      kept_to_next m 0 place (ap live (first ∙ ih) ∙ t) ∙ first ∙ ih)
      n l

  -- an item that delegates is matched with its window, and its steps are the delegations at its offsets
  module _ (item : ℕ) (range window : Range) (to : DelegatesTo c item range window) where
    abbrev pub step_at : ℕ → Effect
    step_at offset = give (destination_at s c item range window offset) (source_at s c item range window offset) range.mask

    pub outcome_delegates : outcome item ≡
        delegate_item (state_before item) (caller_domain s c) (callee_domain s c) (word c.source (second_at item)) (Ok (range, window))
    unfolding item_of
    outcome_delegates =
        let second = word c.source (second_at item) in
        let bit : eqb (delegate_bit second) 1 ≡ true = eq-eqb (delegate_bit second) 1 to.delegate_bit_lem in
        rw (bit, to.range_read, to.window_read, matched_both range window to.same_space)

    pub steps_listed : (outcome item).effects ≡ listed (offsets range window) step_at
    unfolding delegate_item source_domain
    steps_listed = rw outcome_delegates

    -- the next offset is one step more
    pub before_step : (offset : ℕ) → offset < offsets range window →
        before s c item (suc offset) ≡
        record {
          state = act (step_at offset) (before s c item offset).state;
          count = (before s c item offset).count + fills_one (step_at offset) (before s c item offset).state;
        }
    unfolding before run filled listed
    before_step offset l =
        let last = step_at offset ∷ [] in
        let steps = listed offset step_at in
        rw (
          steps_listed,
          take_listed step_at (suc offset) (offsets range window) l,
          take_listed step_at offset (offsets range window) (omega arith),
          run_append steps last (state_before item),
          filled_append steps last (state_before item),
          add-zero,
          ← add_assoc (moved_before item).filled (filled steps (state_before item)) (fills_one (step_at offset) (run steps (state_before item))),
        )

    -- one offset: where it is due the destination is filled, and where it is not nothing changes
    offset_filled : (offset : ℕ) → offset < offsets range window → (end : ℕ) → item < end →
        let source = source_at s c item range window offset in
        let destination = destination_at s c item range window offset in
        let now = before s c item offset in
        let next = before s c item (suc offset) in
        Due now.state destination source range.mask →
        Delegated now.state (state_before end) destination source range.mask × Delegated now.state next.state destination source range.mask ×
        (next.count ≡ now.count + 1) × ((place : ℕ) → (place ≡ destination → ⊥) → next.state.caps place ≡ now.state.caps place)
    offset_filled offset l end b due =
        let source = source_at s c item range window offset in
        let destination = destination_at s c item range window offset in
        let mask = range.mask in
        let now = (before s c item offset).state in
        let next = (before s c item (suc offset)).state in
        let step = before_step offset l in
        let fill = due_fills now destination source mask due in
        let shows : next.caps destination ≡ handed (now.caps source) source mask =
        ap (λ (reached : Reached). reached.state.caps destination) step ∙ give_hands destination source mask now fill in
        let alive : live (next.caps destination) ≡ true = rw shows (lt-ltb 0 (bit_and (now.caps source).permissions mask) (fills_leaves now.caps destination source mask fill)) in (
          handed_delegated now (state_before end) destination source mask (kept_after item (suc offset) destination end b alive ∙ shows),
          handed_delegated now next destination source mask shows,
          ap (λ (reached : Reached). reached.count) step ∙ (rw (due_counts now destination source mask due)),
          (λ place apart. ap (λ (reached : Reached). reached.state.caps place) step ∙ give_others destination source mask now place apart),
        )

    offset_left : (offset : ℕ) → offset < offsets range window →
        (Due (before s c item offset).state (destination_at s c item range window offset) (source_at s c item range window offset) range.mask → ⊥) →
        before s c item (suc offset) ≡ before s c item offset
    offset_left offset l not_due =
        let now = (before s c item offset).state in
        let same = not_due_same now (destination_at s c item range window offset) (source_at s c item range window offset) range.mask not_due in
        before_step offset l ∙ (rw (same.0, same.1, add-zero))

    last_offset : before s c (suc item) 0 ≡ before s c item (offsets range window)
    last_offset = before_next item (offsets range window) (rw (steps_listed, length_listed step_at (offsets range window)) (le_refl (offsets range window)))

    pub item_delivered : item < item_count c → after s c ≡ state_before (item_count c) → ItemDelivered s c item range window
    item_delivered l ends =
        record {
          due_filled = λ offset b due. rw ends (offset_filled offset b (item_count c) l due);
          else_nothing = offset_left;
          then_the_next = last_offset;
        }

  -- any other item takes no step: one that is not matched with its window, and one that translates
  pub outcome_unmatched : (item : ℕ) → ((range window : Range) → DelegatesTo c item range window → ⊥) → delegate_bit (word c.source (second_at item)) ≡ 1 →
      (reason : Reason) × (outcome item ≡ record { received = Err reason; effects = [] })
  unfolding item_of
  outcome_unmatched item other bit =
      let second = word c.source (second_at item) in
      let test : eqb (delegate_bit second) 1 ≡ true = eq-eqb (delegate_bit second) 1 bit in
      let item_read = reading (word c.source (descriptor_at item)) in
      let window_read = reading (word c.target delegate_window) in
      rw test
      (unmatched_none (matched item_read window_read) (state_before item) (caller_domain s c) (callee_domain s c) second
      (λ range window e.
      let (range_good, window_good, same) = matched_good item_read window_read range window e in
      other range window (record { delegate_bit_lem = bit; range_read = range_good; window_read = window_good; same_space = same })))

  -- an item that translates does so on the state as it stands, in the window of word 1
  outcome_translates : (item : ℕ) → (delegate_bit (word c.source (second_at item)) ≡ 1 → ⊥) →
      outcome item ≡
      translate_item (state_before item) (caller_domain s c) (callee_domain s c)
      (matched (reading (word c.source (descriptor_at item))) (reading (word c.target translate_window)))
  unfolding item_of
  outcome_translates item bit =
      let second = word c.source (second_at item) in
      let test : eqb (delegate_bit second) 1 ≡ false = ne_eqb (delegate_bit second) 1 bit in
      rw test

  -- where it is matched with that window, those two are what is translated; and where it is not, it is null
  pub outcome_matched : (item : ℕ) (range window : Range) → TranslatesTo c item range window →
      outcome item ≡ translate_item (state_before item) (caller_domain s c) (callee_domain s c) (Ok (range, window))
  outcome_matched item range window to =
      let bit = to.translate_bit in
      outcome_translates item (λ one. omega arith) ∙ (rw (to.range_read, to.window_read, matched_both range window to.same_space))

  pub outcome_untranslated : (item : ℕ) → ((range window : Range) → TranslatesTo c item range window → ⊥) → delegate_bit (word c.source (second_at item)) ≡ 0 →
      (reason : Reason) × (outcome item ≡ record { received = Err reason; effects = [] })
  outcome_untranslated item other bit =
      let item_read = reading (word c.source (descriptor_at item)) in
      let window_read = reading (word c.target translate_window) in
      let (reason, null) =
      translate_unmatched (matched item_read window_read) (state_before item) (caller_domain s c) (callee_domain s c)
      (λ range window e.
      let (range_good, window_good, same) = matched_good item_read window_read range window e in
      other range window (record { translate_bit = bit; range_read = range_good; window_read = window_good; same_space = same })) in
      (reason, outcome_translates item (λ one. omega arith) ∙ null)

  outcome_other : (item : ℕ) → ((range window : Range) → DelegatesTo c item range window → ⊥) → (outcome item).effects ≡ []
  outcome_other item other =
      let second = word c.source (second_at item) in
      cases (eqb (delegate_bit second) 1)
      (λ (t : eqb (delegate_bit second) 1 ≡ true). ap (λ (i : Item). i.effects) (outcome_unmatched item other (eqb-true (delegate_bit second) 1 t)).1)
      (λ (f : eqb (delegate_bit second) 1 ≡ false).
      ap (λ (i : Item). i.effects) (outcome_translates item (eqb-false (delegate_bit second) 1 f)) ∙ translate_none _ _ _ _)

  other_item : (item : ℕ) → ((range window : Range) → DelegatesTo c item range window → ⊥) → before s c (suc item) 0 ≡ before s c item 0
  other_item item other = before_next item 0 (rw (outcome_other item other) (le_refl 0))

  -- delegations move no object
  message_objects : (item : ℕ) → (state_before item).objects ≡ s.objects
  message_objects item =
      let gives =
      carried_gives AnyGive s (caller_domain s c) (callee_domain s c) c.source c.target item
      (λ i l. any_item (caller_domain s c) (callee_domain s c) c.source c.target i) in
      ap (λ (later : State). later.objects) (gives_anywhere s.objects s.objects gives s.caps)

-- a granted CALL: its blocks have their lengths, its counts fit the payload, its portal is permitted, and its verdict is the message's
pub record CallGranted (s : State) (c : Call) (answer : ℕ) (block : List ℕ) : Type 0 where
  pub source_long : length c.source ≡ block_words
  pub target_long : length c.target ≡ block_words
  pub payload_fits_lem : untyped_count (word c.source 0) + item_words * item_count c ≤ payload_words
  pub portal_permitted : permitted s (object_place (caller_domain s c) c.first) PT call_bit ≡ true
  pub ends : after s c ≡ state_before s c (item_count c)
  pub answers : answer ≡ (moved_before s c (item_count c)).filled
  pub gives_back : block ≡ (moved_before s c (item_count c)).block

pub call_granted : (s : State) (c : Call) (answer : ℕ) (effects : List Effect) (block : List ℕ) → c.number ≡ CALL → rules s c ≡ deliver answer effects block →
    CallGranted s c answer block
unfolding hypercall portal_call payload_fits
call_granted s c answer effects block n h =
    let portal = object_place (caller_domain s c) c.first in
    let callee = s.objects (object_in s portal) ec_word in
    let moved = moved_before s c (item_count c) in
    let last = deliver moved.filled moved.effects moved.block in
    let with_payload = require payload_fits (word c.source 0) else BadPar then last in
    let with_cpu = require eqb (s.objects callee cpu_word) (s.objects c.caller cpu_word) else BadCpu then with_payload in
    let with_callee = require not (eqb callee c.caller) else ComTim then with_cpu in
    let with_portal = require permitted s portal PT call_bit else BadCap then with_callee in
    let long_source = eqb (length c.source) block_words in
    let long_target = eqb (length c.target) block_words in
    let given = deliver answer effects block in
    let required_of = required given refl in
    let by_rule = rule_grants given refl s c h portal_call (rw n) in
    let blocks = required_of (long_source && long_target) BadPar with_portal by_rule in
    let on_portal = required_of (permitted s portal PT call_bit) BadCap with_callee blocks.1 in
    let on_callee = required_of (not (eqb callee c.caller)) ComTim with_cpu on_portal.1 in
    let on_cpu_lem = required_of (eqb (s.objects callee cpu_word) (s.objects c.caller cpu_word)) BadCpu with_payload on_callee.1 in
    let on_payload = required_of (payload_fits (word c.source 0)) BadPar last on_cpu_lem.1 in
    let same_answer : answer ≡ moved.filled = cc on_payload.1 in
    let same_effects : effects ≡ moved.effects = cc on_payload.1 in
    let same_block : block ≡ moved.block = cc on_payload.1 in
    record {
      source_long = eqb-true (length c.source) block_words (and_left long_source long_target blocks.0);
      target_long = eqb-true (length c.target) block_words (and_right long_source long_target blocks.0);
      payload_fits_lem = leb-true (untyped_count (word c.source 0) + item_words * item_count c) payload_words on_payload.0;
      portal_permitted = on_portal.0;
      ends = rw same_effects at (after_verdict s c given h);
      answers = same_answer;
      gives_back = same_block;
    }

-- it was granted on a sound state to an EC, so that its domain is one, and the state before each item is sound
module _ (s : State) (c : Call) (answer : ℕ) (effects : List Effect) (block : List ℕ) (n : c.number ≡ CALL) (h : rules s c ≡ deliver answer effects block) where
  pub caller_domain_small : caller_domain s c < domains
  unfolding hypercall
  caller_domain_small =
      let checked = rule_checked (deliver answer effects block) refl s c h portal_call (rw n) in
      let facts = sound_facts s checked.0 in
      (home s facts (caller_domain s c) (ec_home s facts c.caller checked.1)).small

  pub before_sound : (item : ℕ) → sound_state (before s c item 0).state ≡ true
  unfolding hypercall
  before_sound item =
      let checked = rule_checked (deliver answer effects block) refl s c h portal_call (rw n) in
      let facts = sound_facts s checked.0 in
      let fits = message_fits s c facts checked.1 (call_granted s c answer effects block n h).portal_permitted item in
      rw (before_first s c item) (facts_sound (state_before s c item) (run_sound (moved_before s c item).effects s facts fits))

-- a CALL that succeeds passed its five checks, and delivers
five_passed : (whole held other same fits : Bool) (last : Verdict) (answer : ℕ) →
    let all =
    require whole else BadPar then require held else BadCap then require other else ComTim then require same else BadCpu then
    require fits else BadPar then last in
    reply_of all ≡ Ok answer → all ≡ last
five_passed true true true true true last answer h = refl
five_passed true true true true false last answer h = absurd (omega (arith, ap status_of h))
five_passed true true true false fits last answer h = absurd (omega (arith, ap status_of h))
five_passed true true false same fits last answer h = absurd (omega (arith, ap status_of h))
five_passed true false other same fits last answer h = absurd (omega (arith, ap status_of h))
five_passed false held other same fits last answer h = absurd (omega (arith, ap status_of h))

pub call_delivers : (s : State) (c : Call) (answer : ℕ) → c.number ≡ CALL → reply_of (rules s c) ≡ Ok answer →
    (effects : List Effect) × (block : List ℕ) × (rules s c ≡ deliver answer effects block)
unfolding hypercall portal_call
call_delivers s c answer n h =
    let by_rule = rule_succeeds s c answer portal_call (rw n) h in
    let portal = object_place (caller_domain s c) c.first in
    let callee = s.objects (object_in s portal) ec_word in
    let moved = transfer s (caller_domain s c) (s.objects callee domain_word) c.source c.target in
    let delivers : rules s c ≡ deliver moved.filled moved.effects moved.block =
    by_rule ∙
    five_passed (eqb (length c.source) block_words && eqb (length c.target) block_words) (permitted s portal PT call_bit) (not (eqb callee c.caller))
    (eqb (s.objects callee cpu_word) (s.objects c.caller cpu_word)) (payload_fits (word c.source 0))
    (deliver moved.filled moved.effects moved.block) answer (ap reply_of (sym by_rule) ∙ h) in
    let same : moved.filled ≡ answer = success_same (ap reply_of (sym delivers) ∙ h) in
    (moved.effects, moved.block, delivers ∙ ap (λ (count : ℕ). deliver count moved.effects moved.block) same)

pub delivers_items : DeliversItems
unfolding carried run
delivers_items s c answer n succeeds =
    let (effects, block, h) = call_delivers s c answer n succeeds in
    let granted = call_granted s c answer effects block n h in
    record {
      from_the_call = before_first s c 0;
      each_delegated = λ item range window l to. item_delivered s c item range window to l granted.ends;
      others_nothing = λ item l. other_item s c item;
      to_the_end = before_first s c (item_count c) ∙ (rw (granted.ends, granted.answers));
      objects_stay = rw granted.ends (message_objects s c (item_count c));
      stays_sound = λ item l. before_sound s c answer effects block n h item;
    }
