-- What calls move: CALL's message item by item, offset by offset and word by word, and CREATE_PD's initial range. Each statement stands under one sentence.
use Rattle.std.specs.Prelude.{Ok, ℕ, suc, ◌+◌, ◌-◌, ◌*◌, ◌^◌, ◌≤◌, ◌<◌, min, ◌≡◌, ◌↔◌, ◌⊎◌, true, false, ◌&&◌, List, eqb, length, take, if◌then◌else◌}
use Rattle.std.specs.Int.Bits.{bit_and}
use Rattle.words.specs.Fields.{bits}
use Rattle.words.specs.Sizes.{object, place_of, domain_of, places}
use Rattle.words.specs.Ranges.{raised}
use Rattle.descriptor.specs.declared.Range.{Range}
use Rattle.descriptor.specs.declared.Reading.TheVariants.{Malformed, Good}
use Rattle.descriptor.specs.declared.Reason.{Reason}
use Rattle.descriptor.specs.declared.Reason.TheVariants.{NullDescriptor, MalformedDescriptor, TypesDiffer, NothingFilled, TranslationBroke}
use Rattle.interface.specs.Basics.{word}
use Rattle.interface.specs.Places.{State, live, nothing, domain_word, kind_of}
use Rattle.interface.specs.Damage.{sound_state}
use Rattle.interface.specs.RangeDescriptors.{describe, reading, reason_number}
use Rattle.interface.specs.Effects.{run, filled}
use Rattle.interface.specs.Verdicts.{Call, CALL, CREATE_PD, caller_domain, reply_of, block_of}
use Rattle.interface.specs.Creations.{free_record, next_domain}
use Rattle.interface.specs.Message.{received_word, Item, translate_item, item_of, carried}
use Rattle.interface.specs.Translations.{Translated, Breaks}
use Rattle.interface.specs.Rules.{rules, after}
use Rattle.interface.specs.Consequences.{callee_domain}

-- One delegation.

-- it is due where the source is live and its depth below 63, the destination is null, and the source's permissions AND the mask are not 0
pub record Due (s : State) (destination source mask : ℕ) : Type 0 where
  pub source_live : live (s.caps source) ≡ true
  pub depth_left : (s.caps source).depth < 63
  pub destination_null : live (s.caps destination) ≡ false
  pub permissions_left : bit_and (s.caps source).permissions mask ≡ 0 → ⊥

-- the destination then has the source's resource, its permissions AND the mask, the source as its parent, and a depth one more
pub record Delegated (before later : State) (destination source mask : ℕ) : Type 0 where
  pub same_resource : (later.caps destination).resource ≡ (before.caps source).resource
  pub masked_permissions : (later.caps destination).permissions ≡ bit_and (before.caps source).permissions mask
  pub source_is_parent : (later.caps destination).parent ≡ source + 1
  pub one_deeper : (later.caps destination).depth ≡ (before.caps source).depth + 1

-- CALL's items.

-- how many items a message has: bits 16 to 31 of the sender's word 0
abbrev pub item_count : Call → ℕ
item_count c = bits 16 31 (word c.source 0)

-- how many untyped words: bits 0 to 15
abbrev pub untyped : Call → ℕ
untyped c = bits 0 15 (word c.source 0)

-- the two words of an item in the sender's block: from w59, which is word 63, downward, the descriptor first
abbrev pub first_word : Call → ℕ → ℕ
first_word c item = word c.source (63 - 2 * item)

abbrev pub second_word : Call → ℕ → ℕ
second_word c item = word c.source (62 - 2 * item)

-- an item delegates a range to a window: its second word sets bit 0, its descriptor is read as the range, and the callee's word 2 as the window, of the same space
pub record DelegatesTo (c : Call) (item : ℕ) (range window : Range) : Type 0 where
  pub delegate_bit_lem : bits 0 0 (second_word c item) ≡ 1
  pub range_read : reading (first_word c item) ≡ Good range
  pub window_read : reading (word c.target 2) ≡ Good window
  pub same_space : range.space ≡ window.space

-- an item translates a range into a window: its second word leaves bit 0 at 0, its descriptor is read as the range, and the callee's word 1 as the window, of the same space
pub record TranslatesTo (c : Call) (item : ℕ) (range window : Range) : Type 0 where
  pub translate_bit : bits 0 0 (second_word c item) ≡ 0
  pub range_read : reading (first_word c item) ≡ Good range
  pub window_read : reading (word c.target 1) ≡ Good window
  pub same_space : range.space ≡ window.space

-- a delegation has as many offsets as the side of smaller order has places
abbrev pub offsets : Range → Range → ℕ
offsets range window = 2 ^ min range.order window.order

-- the base of a side of a delegation, the item's or the window's: the hotspot (bits 12 to 31) modulo the side's size, rounded down to a multiple of the smaller size, raises it
abbrev pub hot_base : Call → ℕ → Range → Range → Range → ℕ
hot_base c item range window side = raised side.order (min range.order window.order) (bits 12 31 (second_word c item)) side.base

-- the source at an offset: in the caller's domain, or in domain 0 where the second word sets H (bit 11) and the caller's domain is 1
abbrev pub source_at : State → Call → ℕ → Range → Range → ℕ → ℕ
source_at s c item range window offset =
    place_of (if eqb (bits 11 11 (second_word c item)) 1 && eqb (caller_domain s c) 1 then 0 else caller_domain s c) range.space
    (hot_base c item range window range + offset)

-- the destination at the same offset: in the callee's domain
abbrev pub destination_at : State → Call → ℕ → Range → Range → ℕ → ℕ
destination_at s c item range window offset = place_of (callee_domain s c) range.space (hot_base c item range window window + offset)

-- how far a message has come: the state as it stands, and how many places have been filled
pub record Reached : Type 0 where
  pub state : State
  pub count : ℕ

-- how far it has come before an item's offset: the steps of every item before it have been taken, and then as many of its own as the offset says
unfoldable pub before : State → Call → (item offset : ℕ) → Reached
before s c item offset =
    let moved = carried s (caller_domain s c) (callee_domain s c) c.source c.target item in
    let now = run moved.effects s in
    let steps = take offset (item_of now (caller_domain s c) (callee_domain s c) c.source c.target item).effects in
    record { state = run steps now; count = moved.filled + filled steps now }

-- an item that delegates, at each of its offsets: where the delegation is due, one place more has been filled, the destination, as it should be, and it stays so to the end of
-- the call, and no other place has changed; where it is not due, nothing has. After the last offset comes the next item
pub record ItemDelivered (s : State) (c : Call) (item : ℕ) (range window : Range) : Type 0 where
  pub due_filled : (offset : ℕ) → offset < offsets range window →
      let source = source_at s c item range window offset in
      let destination = destination_at s c item range window offset in
      let now = before s c item offset in
      let next = before s c item (suc offset) in
      Due now.state destination source range.mask →
      Delegated now.state (after s c) destination source range.mask × Delegated now.state next.state destination source range.mask ×
      (next.count ≡ now.count + 1) × ((place : ℕ) → (place ≡ destination → ⊥) → next.state.caps place ≡ now.state.caps place)
  pub else_nothing : (offset : ℕ) → offset < offsets range window →
      (Due (before s c item offset).state (destination_at s c item range window offset) (source_at s c item range window offset) range.mask → ⊥) →
      before s c item (suc offset) ≡ before s c item offset
  pub then_the_next : before s c (suc item) 0 ≡ before s c item (offsets range window)

-- CALL delivers its items in turn: from the state before the call, where nothing has been filled; each item that delegates as it should; any other without change; and the
-- call leaves the state, and answers the count, that the last item leaves. The state before each item is sound
pub record ItemsDelivered (s : State) (c : Call) (answer : ℕ) : Type 0 where
  pub from_the_call : before s c 0 0 ≡ record { state = s; count = 0 }
  pub each_delegated : (item : ℕ) (range window : Range) → item < item_count c → DelegatesTo c item range window → ItemDelivered s c item range window
  pub others_nothing : (item : ℕ) → item < item_count c → ((range window : Range) → DelegatesTo c item range window → ⊥) →
      before s c (suc item) 0 ≡ before s c item 0
  pub to_the_end : before s c (item_count c) 0 ≡ record { state = after s c; count = answer }
  pub objects_stay : (after s c).objects ≡ s.objects
  pub stays_sound : (item : ℕ) → item ≤ item_count c → sound_state (before s c item 0).state ≡ true

-- Every CALL that is granted delivers its items so
abbrev pub DeliversItems : Type 0
DeliversItems =
    (s : State) (c : Call) (answer : ℕ) → c.number ≡ CALL → reply_of (rules s c) ≡ Ok answer → ItemsDelivered s c answer

-- The received block.

-- what the receiver is shown of an item that asks to delegate: the null descriptor, 0, where the item does not delegate to a window, or where no offset of it is due; where some
-- offset is, the descriptor of the destinations, from that of offset 0 on, with the smaller order and the item's mask
pub record DelegateShown (s : State) (c : Call) (item shown : ℕ) : Type 0 where
  pub unmatched : ((range window : Range) → DelegatesTo c item range window → ⊥) → shown ≡ 0
  pub none_due : (range window : Range) → DelegatesTo c item range window →
      ((offset : ℕ) → offset < offsets range window →
      Due (before s c item offset).state (destination_at s c item range window offset) (source_at s c item range window offset) range.mask → ⊥) →
      shown ≡ 0
  pub some_due : (range window : Range) → DelegatesTo c item range window → (offset : ℕ) → offset < offsets range window →
      Due (before s c item offset).state (destination_at s c item range window offset) (source_at s c item range window offset) range.mask →
      shown ≡
      describe
      (record { space = range.space; base = hot_base c item range window window; order = min range.order window.order; mask = range.mask })

-- what the rule of translation makes of a range and a window on the state before an item
abbrev pub translated_item : State → Call → ℕ → Range → Range → Item
translated_item s c item range window = translate_item (before s c item 0).state (caller_domain s c) (callee_domain s c) (Ok (range, window))

-- what it is shown of an item that asks to translate: the null descriptor, 0, where the item does not translate into a window; where it does, what the rule of translation shows,
-- and that is exact
pub record TranslateShown (s : State) (c : Call) (item shown : ℕ) : Type 0 where
  pub unmatched : ((range window : Range) → TranslatesTo c item range window → ⊥) → shown ≡ 0
  pub matched_shown : (range window : Range) → TranslatesTo c item range window → shown ≡ received_word (translated_item s c item range window).received
  pub matched_exact : (range window : Range) → TranslatesTo c item range window →
      Translated (before s c item 0).state (caller_domain s c) (callee_domain s c) range window (translated_item s c item range window)

-- the window of an item: the callee's word 2 where the item asks to delegate, and its word 1 where it asks to translate
abbrev pub window_word : Call → ℕ → ℕ
window_word c item = word c.target (if eqb (bits 0 0 (second_word c item)) 1 then 2 else 1)

-- the cause of each reason why an item is null. Several may hold at once: where one of the first three holds, so does the one of the item's kind among the last two
abbrev pub Cause : State → Call → ℕ → Reason → Type 0
-- a null descriptor: the item's type is 0, or its window's
Cause s c item NullDescriptor = (bits 0 1 (first_word c item) ≡ 0) ⊎ (bits 0 1 (window_word c item) ≡ 0)
-- malformed: the item's descriptor, or its window
Cause s c item MalformedDescriptor = (reading (first_word c item) ≡ Malformed) ⊎ (reading (window_word c item) ≡ Malformed)
-- the types differ
Cause s c item TypesDiffer = bits 0 1 (first_word c item) ≡ bits 0 1 (window_word c item) → ⊥
-- nothing filled: the item asks to delegate, and where it delegates a range to a window, no offset is due
Cause s c item NothingFilled =
    (bits 0 0 (second_word c item) ≡ 1) ×
    ((range window : Range) → DelegatesTo c item range window → (offset : ℕ) → offset < offsets range window →
    Due (before s c item offset).state (destination_at s c item range window offset) (source_at s c item range window offset) range.mask → ⊥)
-- the translation broke: the item asks to translate, and where it translates a range into a window, something breaks that on the state before the item
Cause s c item TranslationBroke =
    (bits 0 0 (second_word c item) ≡ 0) ×
    ((range window : Range) → TranslatesTo c item range window → Breaks (before s c item 0).state (caller_domain s c) (callee_domain s c) range window)

-- a reason is the first that applies: its cause holds, and none of a lower number does
pub record FirstCause (s : State) (c : Call) (item : ℕ) (reason : Reason) : Type 0 where
  pub holds : Cause s c item reason
  pub none_lower : (other : Reason) → reason_number other < reason_number reason → Cause s c item other → ⊥

-- the second word that the receiver gets of an item, beside what it is shown: bit 0 is the sender's; bits 1 to 3 have a reason's number exactly where that reason is the first that
-- applies, and 0 exactly where the receiver is shown something; they have no number above 5, and no other bit is set
pub record ReasonGiven (s : State) (c : Call) (item shown second : ℕ) : Type 0 where
  pub same_kind : bits 0 0 second ≡ bits 0 0 (second_word c item)
  pub first_applies : (reason : Reason) → (bits 1 3 second ≡ reason_number reason) ↔ FirstCause s c item reason
  pub success : (bits 1 3 second ≡ 0) ↔ (shown ≡ 0 → ⊥)
  pub five_reasons : bits 1 3 second ≤ 5
  pub four_bits : second < 2 ^ 4

-- the receiver's block after CALL has 64 words: word 0 is the sender's; words 1 to 3 are its own; then come as many of the sender's as bits 0 to 15 of word 0 say; each item's
-- two words, from word 63 downward, are what the receiver is shown and, below it, the item's kind and why it is null; and the words between are its own
pub record WordsDelivered (s : State) (c : Call) (block : List ℕ) : Type 0 where
  pub sixty_four : length block ≡ 64
  pub counts_taken : word block 0 ≡ word c.source 0
  pub windows_kept : (number : ℕ) → 1 ≤ number → number ≤ 3 → word block number ≡ word c.target number
  pub untyped_copied_lem : (number : ℕ) → number < untyped c → word block (4 + number) ≡ word c.source (4 + number)
  pub delegate_shown : (item : ℕ) → item < item_count c → bits 0 0 (second_word c item) ≡ 1 → DelegateShown s c item (word block (63 - 2 * item))
  pub translate_shown : (item : ℕ) → item < item_count c → bits 0 0 (second_word c item) ≡ 0 → TranslateShown s c item (word block (63 - 2 * item))
  pub reason_given : (item : ℕ) → item < item_count c → ReasonGiven s c item (word block (63 - 2 * item)) (word block (62 - 2 * item))
  pub others_kept : (number : ℕ) → 4 + untyped c ≤ number → number < 64 - 2 * item_count c → word block number ≡ word c.target number

-- Every CALL that is granted gives the receiver its words so
abbrev pub DeliversWords : Type 0
DeliversWords =
    (s : State) (c : Call) (answer : ℕ) → c.number ≡ CALL → reply_of (rules s c) ≡ Ok answer → WordsDelivered s c (block_of c.target (rules s c))

-- CREATE_PD's initial range.

-- the source at an offset of an initial range, in the caller's domain, and the destination, at the same selector of the domain that the new PD takes
abbrev pub initial_source : State → Call → Range → ℕ → ℕ
initial_source s c range offset = place_of (caller_domain s c) object (range.base + offset)

abbrev pub initial_destination : State → Range → ℕ → ℕ
initial_destination s range offset = place_of (next_domain s) object (range.base + offset)

-- CREATE_PD delivers its initial range, which is one of objects, to the new PD's domain, which was empty: each offset that is due is filled as it should be, and each other place
-- of the domain stays empty
pub record RangeDelivered (s : State) (c : Call) : Type 0 where
  pub new_domain : (kind_of (after s c) (free_record s) ≡ 1) × ((after s c).objects (free_record s) domain_word ≡ next_domain s)
  pub was_empty : (place : ℕ) → place < places → domain_of place ≡ next_domain s → s.caps place ≡ nothing
  pub of_objects : (range : Range) → reading c.third ≡ Good range → range.space ≡ object
  pub due_filled : (range : Range) → reading c.third ≡ Good range → (offset : ℕ) → offset < 2 ^ range.order →
      Due s (initial_destination s range offset) (initial_source s c range offset) range.mask →
      Delegated s (after s c) (initial_destination s range offset) (initial_source s c range offset) range.mask
  pub others_empty : (place : ℕ) → place < places → domain_of place ≡ next_domain s →
      ((range : Range) → reading c.third ≡ Good range → (offset : ℕ) → offset < 2 ^ range.order → place ≡ initial_destination s range offset →
      Due s place (initial_source s c range offset) range.mask → ⊥) →
      (after s c).caps place ≡ nothing

-- Every CREATE_PD that is granted delivers its initial range so
abbrev pub DeliversRange : Type 0
DeliversRange =
    (s : State) (c : Call) (answer : ℕ) → c.number ≡ CREATE_PD → reply_of (rules s c) ≡ Ok answer → RangeDelivered s c
