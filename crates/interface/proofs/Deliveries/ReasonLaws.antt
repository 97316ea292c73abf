-- Why an item is null: what an item comes to says which cause is the first that holds, or that none does.
use Rattle.std.specs.Prelude.{Ok, Err, if◌then◌else◌}
use Prim.Native.Nat.{ℕ, zero, suc, ◌+◌, ◌≤◌, ◌<◌, min}
use mathlib.Core.Path.{◌≡◌, refl, sym, ap, subst, ◌∙◌}
use mathlib.Core.Logic.{◌↔◌, ◌⊎◌, inl, inr, ⊎_elim}
use mathlib.Core.Bool.{Bool, true, false, cond}
use mathlib.Core.List.{[], ◌∷◌}
use native.Mathlib.Decide.{le_ind}
use native.Mathlib.Nat.{add-zero}
use native.Mathlib.Omega.{arith}
use lib.Dec.{eqb, ltb}
use borrow.Author.Tests.{eqb-true, eqb-false, eq-eqb, ne_eqb, ltb-true, ltb-false}
use Rattle.words.specs.Fields.{bits}
use Rattle.words.specs.Sizes.{domains}
use Rattle.descriptor.specs.declared.Range.{Range}
use Rattle.descriptor.specs.declared.Reading.{Reading}
use Rattle.descriptor.specs.declared.Reading.TheVariants.{Null, Malformed, Good}
use Rattle.descriptor.specs.Descriptors.{Match, Received}
use Rattle.descriptor.specs.declared.Reason.{Reason}
use Rattle.descriptor.specs.declared.Reason.TheVariants.{NullDescriptor, MalformedDescriptor, TypesDiffer, NothingFilled, TranslationBroke}
use Rattle.descriptor.proofs.DescriptorLaws.{good_proper, null_type, good_type, reading_null, reason_some, reason_most, why_most, same_reason}
use Rattle.interface.specs.Basics.{word, listed}
use Rattle.interface.specs.Places.{State}
use Rattle.interface.specs.Damage.{sound_state}
use Rattle.interface.specs.RangeDescriptors.{type_of, reading, matched, reason_number, why_null}
use Rattle.interface.specs.Effects.{Effect, run, fills_one, filled}
use Rattle.interface.specs.Verdicts.{Call, caller_domain}
use Rattle.interface.specs.Message.{delegate_bit, received_word, received_second, Item, source_domain, delegate_item, translate_item, item_of}
use Rattle.interface.specs.Translations.{Translated}
use Rattle.interface.specs.Consequences.{callee_domain}
use Rattle.interface.specs.Deliveries.{Due, first_word, second_word, window_word, DelegatesTo, TranslatesTo, offsets, hot_base, source_at, destination_at, before, translated_item, Cause, FirstCause, ReasonGiven}
use Rattle.interface.proofs.Basics.BoolLaws.{cases}
use Rattle.interface.proofs.Tables.TurnLaws.{filled_append}
use Rattle.interface.proofs.Tables.TableLaws.{take_listed}
use Rattle.interface.proofs.Deliveries.TranslationLaws.{translates_exactly}
use Rattle.interface.proofs.Deliveries.DeliveryLaws.{not_due_same, due_counts, state_before, outcome, step_at, before_first, outcome_delegates, outcome_matched, steps_listed}

-- What a word is read as is one of three.
malformed_some : Malformed ≡ Null → ⊥
malformed_some e = let never : ◌≡◌ {A = ℕ} 0 1 = cc in omega arith

good_some : {range : Range} → Good range ≡ Null → ⊥
good_some e = let never : ◌≡◌ {A = ℕ} 0 1 = cc in omega arith

good_formed : {range : Range} → Good range ≡ Malformed → ⊥
good_formed e = let never : ◌≡◌ {A = ℕ} 0 1 = cc in omega arith

-- How many places listed steps fill: none where no step does, and some where one does.
module _ (step : ℕ → Effect) (s : State) where
  listed_next : (n : ℕ) → filled (listed (suc n) step) s ≡ filled (listed n step) s + fills_one (step n) (run (listed n step) s)
  unfolding listed filled
  listed_next n = filled_append (listed n step) (step n ∷ []) s ∙ (rw add-zero)

  fill_none : (n : ℕ) → ((i : ℕ) → i < n → fills_one (step i) (run (listed i step) s) ≡ 0) → filled (listed n step) s ≡ 0
  fill_none zero none = unfold listed filled in refl
  fill_none (suc n) none = listed_next n ∙ (rw (none n (omega arith), fill_none n (λ i l. none i (omega arith))))

  fill_some : (n i : ℕ) → i < n → fills_one (step i) (run (listed i step) s) ≡ 1 → filled (listed n step) s ≡ 0 → ⊥
  fill_some n i l one =
      le_ind (λ (m : ℕ). filled (listed m step) s ≡ 0 → ⊥) (λ none. omega (arith, listed_next i))
      (λ m b ih none. ih (omega (arith, listed_next m))) n l

module _ (s : State) (c : Call) (item : ℕ) where
  -- how many places an item fills
  abbrev filled_by : ℕ
  filled_by = filled (outcome s c item).effects (state_before s c item)

  -- an item that delegates: it shows its destination where it fills some place, which it does where some offset is due
  module _ (range window : Range) (to : DelegatesTo c item range window) where
    abbrev pub destination_range : Range
    destination_range =
        record { space = range.space; base = hot_base c item range window window; order = min range.order window.order; mask = range.mask }

    pub received_by_filled : (outcome s c item).received ≡ (if eqb filled_by 0 then Err NothingFilled else Ok destination_range)
    unfolding delegate_item source_domain
    received_by_filled = rw (outcome_delegates s c item range window to)

    state_at : (offset : ℕ) → offset ≤ offsets range window →
        (before s c item offset).state ≡ run (listed offset (step_at s c item range window to)) (state_before s c item)
    unfolding before
    state_at offset l = rw (steps_listed s c item range window to, take_listed (step_at s c item range window to) offset (offsets range window) l)

    pub none_filled : ((offset : ℕ) → offset < offsets range window →
        Due (before s c item offset).state (destination_at s c item range window offset) (source_at s c item range window offset) range.mask → ⊥) →
        filled_by ≡ 0
    none_filled none =
        rw (steps_listed s c item range window to)
        (fill_none (step_at s c item range window to) (state_before s c item) (offsets range window)
        (λ offset l.
        let here = state_at offset (omega arith) in
        rw here at
        (not_due_same (before s c item offset).state (destination_at s c item range window offset) (source_at s c item range window offset) range.mask
        (none offset l)).1))

    pub some_filled : (offset : ℕ) → offset < offsets range window →
        Due (before s c item offset).state (destination_at s c item range window offset) (source_at s c item range window offset) range.mask →
        filled_by ≡ 0 → ⊥
    some_filled offset l due none =
        fill_some (step_at s c item range window to) (state_before s c item) (offsets range window) offset l
        (rw (state_at offset (omega arith)) at
        (due_counts (before s c item offset).state (destination_at s c item range window offset) (source_at s c item range window offset) range.mask due))
        (rw (steps_listed s c item range window to) at none)

  -- an item that translates: what the receiver is shown is the rule's, which is exact
  module _ (range window : Range) (to : TranslatesTo c item range window) where
    pub received_by_rule : (outcome s c item).received ≡ (translated_item s c item range window).received
    received_by_rule = ap (λ (i : Item). i.received) (outcome_matched s c item range window to) ∙ (rw (before_first s c item))

    pub rule_exact : caller_domain s c < domains → sound_state (before s c item 0).state ≡ true →
        Translated (before s c item 0).state (caller_domain s c) (callee_domain s c) range window (translated_item s c item range window)
    rule_exact small sound =
        translates_exactly (before s c item 0).state (caller_domain s c) (callee_domain s c) range window sound small
        (good_proper (first_word c item) range to.range_read)

  -- none of the causes whose numbers are below one holds
  abbrev Clear : ℕ → Type 0
  Clear n = (reason : Reason) → reason_number reason < n → Cause s c item reason → ⊥

  clear_first : Clear 1
  clear_first reason l cause = omega (arith, reason_some reason)

  clear_next : (reason : Reason) → Clear (reason_number reason) → (Cause s c item reason → ⊥) → Clear (reason_number reason + 1)
  clear_next reason clear not_this other l cause =
      cases (ltb (reason_number other) (reason_number reason))
      (λ (t : ltb (reason_number other) (reason_number reason) ≡ true). clear other (ltb-true (reason_number other) (reason_number reason) t) cause)
      (λ (f : ltb (reason_number other) (reason_number reason) ≡ false).
      let least = ltb-false (reason_number other) (reason_number reason) f in
      not_this (subst (Cause s c item) (same_reason other reason (omega arith)) cause))

  -- what the item and its window are read as, and what their match says of the causes
  abbrev MatchTells : Match → Type 0
  MatchTells (Err reason) = FirstCause s c item reason
  MatchTells (Ok (range, window)) =
      (reading (first_word c item) ≡ Good range) × (reading (window_word c item) ≡ Good window) × (range.space ≡ window.space) × Clear 4

  first_null : Cause s c item NullDescriptor → MatchTells (Err NullDescriptor)
  first_null cause = record { holds = cause; none_lower = clear_first }

  module _ (a b : Reading) (is_a : reading (first_word c item) ≡ a) (is_b : reading (window_word c item) ≡ b) where
    not_null : (a ≡ Null → ⊥) → (b ≡ Null → ⊥) → Clear 2
    not_null m n =
        clear_next NullDescriptor clear_first
        (⊎_elim (λ (e : bits 0 1 (first_word c item) ≡ 0). m (sym is_a ∙ reading_null (first_word c item) e))
        (λ (e : bits 0 1 (window_word c item) ≡ 0). n (sym is_b ∙ reading_null (window_word c item) e)))

    first_malformed : (a ≡ Null → ⊥) → (b ≡ Null → ⊥) → (a ≡ Malformed) ⊎ (b ≡ Malformed) → MatchTells (Err MalformedDescriptor)
    first_malformed m n cause =
        record {
          holds = ⊎_elim (λ (e : a ≡ Malformed). inl (is_a ∙ e)) (λ (e : b ≡ Malformed). inr (is_b ∙ e)) cause;
          none_lower = not_null m n;
        }

  match_tells : (a b : Reading) → reading (first_word c item) ≡ a → reading (window_word c item) ≡ b → MatchTells (matched a b)
  unfolding matched
  match_tells Null Null p q = first_null (inl (null_type (first_word c item) p))
  match_tells Null Malformed p q = first_null (inl (null_type (first_word c item) p))
  match_tells Null (Good window) p q = first_null (inl (null_type (first_word c item) p))
  match_tells Malformed Null p q = first_null (inr (null_type (window_word c item) q))
  match_tells (Good range) Null p q = first_null (inr (null_type (window_word c item) q))
  match_tells Malformed Malformed p q = first_malformed Malformed Malformed p q malformed_some malformed_some (inl refl)
  match_tells Malformed (Good window) p q = first_malformed Malformed (Good window) p q malformed_some good_some (inl refl)
  match_tells (Good range) Malformed p q = first_malformed (Good range) Malformed p q good_some malformed_some (inr refl)
  match_tells (Good range) (Good window) p q = same_type (eqb range.space window.space) refl
    where
      well_formed_lem : Clear 3
      well_formed_lem =
          clear_next MalformedDescriptor (not_null (Good range) (Good window) p q good_some good_some)
          (⊎_elim (λ (e : reading (first_word c item) ≡ Malformed). good_formed (sym p ∙ e)) (λ (e : reading (window_word c item) ≡ Malformed). good_formed (sym q ∙ e)))

      same_type : (same : Bool) → eqb range.space window.space ≡ same → MatchTells (cond same (Ok (range, window)) (Err TypesDiffer))
      same_type true e =
          let same = eqb-true range.space window.space e in
          let one_type : bits 0 1 (first_word c item) ≡ bits 0 1 (window_word c item) =
          good_type (first_word c item) range p ∙ ap type_of same ∙ sym (good_type (window_word c item) window q) in
          (p, q, same, clear_next TypesDiffer well_formed_lem (λ apart. apart one_type))
      same_type false e =
          record {
            holds =
                λ same.
                eqb-false range.space window.space e
                (omega (arith, good_type (first_word c item) range p, good_type (window_word c item) window q));
            none_lower = well_formed_lem;
          }

  -- what an item comes to says of the causes: a null one's reason is the first that applies, and for one that shows something none does
  abbrev Tells : Received → Type 0
  Tells (Err reason) = FirstCause s c item reason
  Tells (Ok range) = (reason : Reason) → Cause s c item reason → ⊥

  nothing_holds : Clear 6 → (reason : Reason) → Cause s c item reason → ⊥
  nothing_holds clear reason cause = clear reason (omega (arith, reason_most reason)) cause

  -- an item that asks to delegate
  module _ (bit : bits 0 0 (second_word c item) ≡ 1) where
    window_delegates : window_word c item ≡ word c.target 2
    window_delegates = rw (eq-eqb (bits 0 0 (second_word c item)) 1 bit)

    delegate_tells : (match : Match) → matched (reading (first_word c item)) (reading (window_word c item)) ≡ match → MatchTells match →
        Tells (outcome s c item).received
    unfolding item_of delegate_item
    delegate_tells (Err reason) e tells =
        let there : matched (reading (first_word c item)) (reading (word c.target 2)) ≡ Err reason = rw window_delegates at e in
        let is_null : (outcome s c item).received ≡ Err reason = rw (eq-eqb (delegate_bit (second_word c item)) 1 bit, there) in
        subst Tells (sym is_null) tells
    delegate_tells (Ok (range, window)) e (p, q, same, clear) =
        let to : DelegatesTo c item range window =
        record { delegate_bit_lem = bit; range_read = p; window_read = ap reading (sym window_delegates) ∙ q; same_space = same } in
        cases (eqb filled_by 0)
        (λ (t : eqb filled_by 0 ≡ true).
        let is_null : (outcome s c item).received ≡ Err NothingFilled = received_by_filled range window to ∙ (rw t) in
        subst Tells (sym is_null)
        (record {
          holds = (bit, λ other_range other_window other_to offset l due. some_filled other_range other_window other_to offset l due (eqb-true filled_by 0 t));
          none_lower = clear;
        }))
        (λ (f : eqb filled_by 0 ≡ false).
        let is_shown : (outcome s c item).received ≡ Ok (destination_range range window to) = received_by_filled range window to ∙ (rw f) in
        let some_fill : Clear 5 =
        clear_next NothingFilled clear (λ cause. eqb-false filled_by 0 f (none_filled range window to (cause.1 range window to))) in
        subst Tells (sym is_shown) (nothing_holds (clear_next TranslationBroke some_fill (λ cause. omega (arith, cause.0)))))

  -- an item that asks to translate
  module _ (bit : bits 0 0 (second_word c item) ≡ 0) (small : caller_domain s c < domains) (sound : sound_state (before s c item 0).state ≡ true) where
    window_translates : window_word c item ≡ word c.target 1
    window_translates = rw (ne_eqb (bits 0 0 (second_word c item)) 1 (λ one. omega arith))

    translate_tells : (match : Match) → matched (reading (first_word c item)) (reading (window_word c item)) ≡ match → MatchTells match →
        Tells (outcome s c item).received
    unfolding item_of translate_item
    translate_tells (Err reason) e tells =
        let there : matched (reading (first_word c item)) (reading (word c.target 1)) ≡ Err reason = rw window_translates at e in
        let is_null : (outcome s c item).received ≡ Err reason = rw (ne_eqb (delegate_bit (second_word c item)) 1 (λ one. omega arith), there) in
        subst Tells (sym is_null) tells
    translate_tells (Ok (range, window)) e (p, q, same, clear) =
        let to : TranslatesTo c item range window =
        record { translate_bit = bit; range_read = p; window_read = ap reading (sym window_translates) ∙ q; same_space = same } in
        let not_filling : Clear 5 = clear_next NothingFilled clear (λ cause. omega (arith, cause.0)) in
        go (translated_item s c item range window).received refl to not_filling
      where
        go : (received : Received) → (translated_item s c item range window).received ≡ received → TranslatesTo c item range window → Clear 5 → Tells (outcome s c item).received
        go (Err reason) r to not_filling =
            let one = (rule_exact range window to small sound).one_reason reason r in
            let is_null : (outcome s c item).received ≡ Err TranslationBroke = received_by_rule range window to ∙ r ∙ ap Err one in
            subst Tells (sym is_null)
            (record {
              holds = (
                bit,
                λ other_range other_window other_to.
                    (rule_exact other_range other_window other_to small sound).null_so.0 (sym (received_by_rule other_range other_window other_to) ∙ is_null),
              );
              none_lower = not_filling;
            })
        go (Ok shown) r to not_filling =
            let unbroken : Cause s c item TranslationBroke → ⊥ =
            λ cause.
            let broke = (rule_exact range window to small sound).null_so.1 (cause.1 range window to) in
            let never : ◌≡◌ {A = ℕ} 0 1 = cc in omega arith in
            subst Tells (sym (received_by_rule range window to ∙ r)) (nothing_holds (clear_next TranslationBroke not_filling unbroken))

  -- any item
  item_tells : caller_domain s c < domains → sound_state (before s c item 0).state ≡ true → Tells (outcome s c item).received
  item_tells small sound =
      let tells = match_tells (reading (first_word c item)) (reading (window_word c item)) refl refl in
      cases (eqb (bits 0 0 (second_word c item)) 1)
      (λ (t : eqb (bits 0 0 (second_word c item)) 1 ≡ true). delegate_tells (eqb-true (bits 0 0 (second_word c item)) 1 t) _ refl tells)
      (λ (f : eqb (bits 0 0 (second_word c item)) 1 ≡ false).
      let other = eqb-false (bits 0 0 (second_word c item)) 1 f in
      translate_tells (omega arith) small sound _ refl tells)

  -- the number beside the kind is that of the first reason that applies, and 0 where something is shown
  first_why : (received : Received) → Tells received → (reason : Reason) → (why_null received ≡ reason_number reason) ↔ FirstCause s c item reason
  first_why (Err given) first reason = (
    (λ e. subst (FirstCause s c item) (same_reason given reason e) first),
    (λ other.
        cases (ltb (reason_number given) (reason_number reason))
        (λ (t : ltb (reason_number given) (reason_number reason) ≡ true).
        absurd (other.none_lower given (ltb-true (reason_number given) (reason_number reason) t) first.holds))
        (λ (f : ltb (reason_number given) (reason_number reason) ≡ false).
        cases (ltb (reason_number reason) (reason_number given))
        (λ (t : ltb (reason_number reason) (reason_number given) ≡ true).
        absurd (first.none_lower reason (ltb-true (reason_number reason) (reason_number given) t) other.holds))
        (λ (g : ltb (reason_number reason) (reason_number given) ≡ false).
        omega (arith, ltb-false (reason_number given) (reason_number reason) f, ltb-false (reason_number reason) (reason_number given) g)))),
  )
  first_why (Ok range) none reason = ((λ e. absurd (omega (arith, reason_some reason))), (λ first. absurd (none reason first.holds)))

shown_why : (received : Received) → (why_null received ≡ 0) ↔ (received_word received ≡ 0 → ⊥)
shown_why (Err reason) = ((λ e. absurd (omega (arith, reason_some reason))), (λ some. absurd (some refl)))
shown_why (Ok range) = ((λ e null. omega arith), (λ some. refl))

-- the second word that is received
pub reason_given : (s : State) (c : Call) (item shown second : ℕ) → caller_domain s c < domains → sound_state (before s c item 0).state ≡ true →
    shown ≡ received_word (outcome s c item).received → second ≡ received_second (second_word c item) (why_null (outcome s c item).received) →
    ReasonGiven s c item shown second
reason_given s c item shown second small sound is_shown is_second =
    let received = (outcome s c item).received in
    let most = why_most received in
    let why : bits 1 3 second ≡ why_null received = omega arith in
    let success = shown_why received in
    record {
      same_kind = omega arith;
      first_applies = λ reason. rw why (first_why s c item received (item_tells s c item small sound) reason);
      success = rw (why, is_shown) success;
      five_reasons = omega arith;
      four_bits = omega arith;
    }
