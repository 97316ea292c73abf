-- What the receiver's block holds after CALL, word by word.
use Prim.Native.Nat.{ℕ, zero, suc, ◌+◌, ◌-◌, ◌*◌, ◌/◌, ◌≤◌, ◌<◌}
use mathlib.Core.Path.{◌≡◌, refl, sym, ap, ◌∙◌}
use mathlib.Core.Bool.{true}
use mathlib.Core.List.{List, ◌++◌}
use mathlib.Core.Logic.{◌≢◌}
use native.Mathlib.Decide.{le_ind}
use native.Mathlib.Omega.{arith}
use lib.ListN.{length, take, drop, set, length-drop, length-set, get_or-append}
use lib.Seq.{paste, length-paste, length_paste_head, length-take-le, get_or-take, get_or-drop, get_or-append-add, get_or-set_same, get_or-set_other}
use borrow.Author.Tests.{eq-eqb, ne_eqb}
use Rattle.words.specs.Sizes.{domains, block_words}
use Rattle.interface.specs.Basics.{word}
use Rattle.interface.specs.Places.{State}
use Rattle.interface.specs.Damage.{sound_state}
use Rattle.interface.specs.RangeDescriptors.{why_null}
use Rattle.interface.specs.Verdicts.{Call, caller_domain}
use Rattle.interface.specs.Message.{head_words, payload_words, untyped_count, item_words, descriptor_at, second_at, delegate_bit, received_word, received_second, Item, untyped_copied, carried}
use Rattle.interface.specs.Deliveries.{untyped, item_count, before, DelegateShown, TranslateShown, WordsDelivered, DeliversWords}
use Rattle.interface.proofs.Deliveries.DeliveryLaws.{moved_before, outcome, outcome_unmatched, outcome_untranslated, CallGranted, call_granted, caller_domain_small, before_sound, call_delivers}
use Rattle.interface.proofs.Deliveries.ReasonLaws.{received_by_filled, none_filled, some_filled, received_by_rule, rule_exact, reason_given}

-- A copy into a list: its words before the copy, in it, and after it.
module _ (into from : List ℕ) (at size : ℕ) (fits : at + size ≤ length into) (enough : size ≤ length from) where
  paste_head : (i : ℕ) → i < at → word (paste into at from size) i ≡ word into i
  paste_head i l =
      let head = take at into ++ take size from in
      let long = length_paste_head into at from size (omega arith) enough in
      let first : length (take at into) ≡ at = length-take-le at into (omega arith) in
      get_or-append head (drop (at + size) into) 0 i (omega arith) ∙ get_or-append (take at into) (take size from) 0 i (omega arith) ∙ get_or-take at into i 0 l

  paste_middle : (i : ℕ) → i < size → word (paste into at from size) (at + i) ≡ word from i
  paste_middle i l =
      let head = take at into ++ take size from in
      let long = length_paste_head into at from size (omega arith) enough in
      let first : length (take at into) ≡ at = length-take-le at into (omega arith) in
      get_or-append head (drop (at + size) into) 0 (at + i) (omega arith) ∙
      ap (λ (n : ℕ). word head (n + i)) (sym first) ∙ get_or-append-add (take at into) (take size from) i 0 ∙ get_or-take size from i 0 l

  paste_tail : (i : ℕ) → at + size ≤ i → word (paste into at from size) i ≡ word into i
  paste_tail i l =
      let head = take at into ++ take size from in
      let long : length head ≡ at + size = length_paste_head into at from size (omega arith) enough in
      let rest : i ≡ length head + (i - (at + size)) = omega arith in
      let back : at + size + (i - (at + size)) ≡ i = omega arith in
      ap (word (paste into at from size)) rest ∙ get_or-append-add head (drop (at + size) into) (i - (at + size)) 0 ∙
      get_or-drop (at + size) into (i - (at + size)) 0 ∙ ap (word into) back

-- as many items fill the payload
abbrev pub most_items : ℕ
most_items = payload_words / item_words

-- The words of two items are four.
module _ (item later : ℕ) (after_it : item < later) (few : later < most_items) where
  descriptors_apart : descriptor_at item ≢ descriptor_at later
  descriptors_apart = omega arith

  descriptor_off_second : descriptor_at item ≢ second_at later
  descriptor_off_second = omega arith

  pub second_off_descriptor : second_at item ≢ descriptor_at later
  second_off_descriptor = omega arith

  pub seconds_apart : second_at item ≢ second_at later
  seconds_apart = omega arith

module _ (s : State) (c : Call) where
  -- the block after some items
  abbrev block_after : ℕ → List ℕ
  block_after n = (moved_before s c n).block

  abbrev copied : List ℕ
  copied = untyped_copied c.source c.target

  module _ (long : length copied ≡ block_words) where
    block_long : (n : ℕ) → length (block_after n) ≡ block_words
    unfolding carried
    block_long zero = long
    block_long (suc n) = simp length-set (block_long n)

    -- the words below the items are as before them
    block_below : (n number : ℕ) → number < block_words - item_words * n → word (block_after n) number ≡ word copied number
    unfolding carried
    block_below zero number l = refl
    block_below (suc n) number l =
        let off_second : number ≢ second_at n = omega arith in
        let off_first : number ≢ descriptor_at n = omega arith in
        rw (get_or-set_other, get_or-set_other) (block_below n number (omega arith))

    -- an item's two words are set when it comes, and stay
    block_item : (item n : ℕ) → item < n → n ≤ most_items →
        (word (block_after n) (descriptor_at item) ≡ received_word (outcome s c item).received) ×
        (word (block_after n) (second_at item) ≡ received_second (word c.source (second_at item)) (why_null (outcome s c item).received))
    unfolding carried
    block_item item n l few =
        le_ind
        (λ (m : ℕ).
        m ≤ most_items →
        (word (block_after m) (descriptor_at item) ≡ received_word (outcome s c item).received) ×
        (word (block_after m) (second_at item) ≡ received_second (word c.source (second_at item)) (why_null (outcome s c item).received)))
        (λ few_now.
        let apart : descriptor_at item ≢ second_at item = omega arith in
        let old = block_after item in
        let shown = received_word (outcome s c item).received in
        let second = received_second (word c.source (second_at item)) (why_null (outcome s c item).received) in
        let in_old : descriptor_at item < length old = rw (block_long item) (omega arith) in
        let in_first : second_at item < length (set old (descriptor_at item) shown) = simp length-set (rw (block_long item) (omega arith)) in (
          get_or-set_other (set old (descriptor_at item) shown) (second_at item) (descriptor_at item) second 0 apart ∙ get_or-set_same old (descriptor_at item) shown 0 in_old,
          get_or-set_same (set old (descriptor_at item) shown) (second_at item) second 0 in_first,
        ))
        (λ m b ih few_now.
        let soon : m < most_items = few_now in
        let descriptors = descriptors_apart item m b soon in
        let descriptor_second = descriptor_off_second item m b soon in
        let second_descriptor = second_off_descriptor item m b soon in
        let seconds = seconds_apart item m b soon in
        let as_before = ih (omega arith) in
        (rw (get_or-set_other, get_or-set_other) as_before.0, rw (get_or-set_other, get_or-set_other) as_before.1))
        n l few

  -- what is shown of an item that asks to delegate, and of one that asks to translate
  delegate_shown : (item shown : ℕ) → delegate_bit (word c.source (second_at item)) ≡ 1 → shown ≡ received_word (outcome s c item).received →
      DelegateShown s c item shown
  delegate_shown item shown bit e =
      record {
        unmatched =
            λ other.
            let (reason, null) = outcome_unmatched s c item other bit in
            e ∙ ap (λ (i : Item). received_word i.received) null;
        none_due =
            λ range window to none.
            e ∙ (rw (received_by_filled s c item range window to, eq-eqb _ 0 (none_filled s c item range window to none)));
        some_due =
            λ range window to offset l due.
            e ∙ (rw (received_by_filled s c item range window to, ne_eqb _ 0 (some_filled s c item range window to offset l due)));
      }

  translate_shown : (item shown : ℕ) → caller_domain s c < domains → sound_state (before s c item 0).state ≡ true →
      delegate_bit (word c.source (second_at item)) ≡ 0 → shown ≡ received_word (outcome s c item).received → TranslateShown s c item shown
  translate_shown item shown small sound bit e =
      record {
        unmatched =
            λ other.
            let (reason, null) = outcome_untranslated s c item other bit in
            e ∙ ap (λ (i : Item). received_word i.received) null;
        matched_shown = λ range window to. e ∙ ap received_word (received_by_rule s c item range window to);
        matched_exact = λ range window to. rule_exact s c item range window to small sound;
      }

-- the words that are copied before the items
module _ (source target : List ℕ) (source_long : length source ≡ block_words) (target_long : length target ≡ block_words)
    (fits : untyped_count (word source 0) ≤ payload_words) where
  abbrev headed : List ℕ
  headed = set target 0 (word source 0)

  headed_long : length headed ≡ block_words
  headed_long = simp length-set target_long

  enough : untyped_count (word source 0) ≤ length (drop head_words source)
  enough = simp length-drop (rw source_long (omega arith))

  room : head_words + untyped_count (word source 0) ≤ length headed
  room = rw headed_long (omega arith)

  pub copied_long : length (untyped_copied source target) ≡ block_words
  unfolding untyped_copied
  copied_long = length-paste headed head_words (drop head_words source) (untyped_count (word source 0)) room enough ∙ headed_long

  copied_first : word (untyped_copied source target) 0 ≡ word source 0
  unfolding untyped_copied
  copied_first =
      paste_head headed (drop head_words source) head_words (untyped_count (word source 0)) room enough 0 (omega arith) ∙
      get_or-set_same target 0 (word source 0) 0 (rw target_long (omega arith))

  copied_head : (number : ℕ) → 1 ≤ number → number < head_words → word (untyped_copied source target) number ≡ word target number
  unfolding untyped_copied
  copied_head number l b =
      let apart : number ≢ 0 = omega arith in
      paste_head headed (drop head_words source) head_words (untyped_count (word source 0)) room enough number b ∙
      get_or-set_other target 0 number (word source 0) 0 apart

  copied_untyped : (number : ℕ) → number < untyped_count (word source 0) → word (untyped_copied source target) (head_words + number) ≡ word source (head_words + number)
  unfolding untyped_copied
  copied_untyped number l =
      paste_middle headed (drop head_words source) head_words (untyped_count (word source 0)) room enough number l ∙ get_or-drop head_words source number 0

  copied_tail : (number : ℕ) → head_words + untyped_count (word source 0) ≤ number → word (untyped_copied source target) number ≡ word target number
  unfolding untyped_copied
  copied_tail number l =
      let apart : number ≢ 0 = omega arith in
      paste_tail headed (drop head_words source) head_words (untyped_count (word source 0)) room enough number l ∙
      get_or-set_other target 0 number (word source 0) 0 apart

module _ (s : State) (c : Call) (answer : ℕ) (block : List ℕ) (granted : CallGranted s c answer block) where
  untyped_few : untyped c ≤ payload_words
  untyped_few = let payload = granted.payload_fits_lem in omega arith

  pub items_few : item_count c ≤ most_items
  items_few = let payload = granted.payload_fits_lem in omega arith

  pub all_copied : length (untyped_copied c.source c.target) ≡ block_words
  all_copied = copied_long c.source c.target granted.source_long granted.target_long untyped_few

  below_items : (number : ℕ) → number < block_words - item_words * item_count c → word (moved_before s c (item_count c)).block number ≡ word (untyped_copied c.source c.target) number
  below_items = block_below s c all_copied (item_count c)

  words_delivered : caller_domain s c < domains → ((item : ℕ) → sound_state (before s c item 0).state ≡ true) →
      WordsDelivered s c (moved_before s c (item_count c)).block
  words_delivered small sound =
      let payload = granted.payload_fits_lem in
      let source_long = granted.source_long in
      let target_long = granted.target_long in
      let few = untyped_few in
      record {
        sixty_four = block_long s c all_copied (item_count c);
        counts_taken = below_items 0 (omega arith) ∙ copied_first c.source c.target source_long target_long few;
        windows_kept = λ number l b. below_items number (omega arith) ∙ copied_head c.source c.target source_long target_long few number l (omega arith);
        untyped_copied_lem = λ number l. below_items (head_words + number) (omega arith) ∙ copied_untyped c.source c.target source_long target_long few number l;
        delegate_shown = λ item l bit. delegate_shown s c item _ bit (block_item s c all_copied item (item_count c) l items_few).0;
        translate_shown = λ item l bit. translate_shown s c item _ small (sound item) bit (block_item s c all_copied item (item_count c) l items_few).0;
        reason_given =
            λ item l.
            let (first, second) = block_item s c all_copied item (item_count c) l items_few in
            reason_given s c item _ _ small (sound item) first second;
        others_kept = λ number l b. below_items number b ∙ copied_tail c.source c.target source_long target_long few number l;
      }

pub delivers_words : DeliversWords
delivers_words s c answer n succeeds =
    let (effects, block, h) = call_delivers s c answer n succeeds in
    let granted = call_granted s c answer effects block n h in
    rw (h, granted.gives_back) (words_delivered s c answer block granted (caller_domain_small s c answer effects block n h) (before_sound s c answer effects block n h))
