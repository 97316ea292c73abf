-- The message block: word 0, the windows, the untyped words and the typed items.
use Rattle.std.specs.Prelude.{Ok, Err, ℕ, zero, suc, ◌+◌, ◌-◌, ◌*◌, ◌^◌, min, Bool, ◌&&◌, List, [], ◌∷◌, ◌++◌, eqb, leb, length, take, drop, set, if◌then◌else◌}
use Rattle.words.specs.Fields.{bits}
use Rattle.words.specs.Sizes.{place_of, domain_of, selector_of, block_words}
use Rattle.words.specs.Permissions.{delegated}
use Rattle.words.specs.Ranges.{aligned, raised}
use Rattle.descriptor.specs.declared.Range.{Range}
use Rattle.descriptor.specs.Descriptors.{Match, Received}
use Rattle.descriptor.specs.declared.Reason.TheVariants.{NothingFilled, TranslationBroke}
use Rattle.interface.specs.Basics.{word, listed, all_below}
use Rattle.interface.specs.Places.{Cap, State}
use Rattle.interface.specs.Boot.{hypervisor, root}
use Rattle.interface.specs.RangeDescriptors.{null, describe, reading, matched, why_null}
use Rattle.interface.specs.Effects.{Effect, give, ancestors, run, filled}

-- the words before the payload: word 0, the windows for translate and delegate, and a spare word
abbrev pub head_words : ℕ
head_words = 4

abbrev pub translate_window : ℕ
translate_window = 1

abbrev pub delegate_window : ℕ
delegate_window = 2

-- the payload: words w0 to w59
abbrev pub payload_words : ℕ
payload_words = block_words - head_words

-- how many untyped words and typed items word 0 says
abbrev pub untyped_count : ℕ → ℕ
untyped_count word0 = bits 0 15 word0

abbrev pub typed_count : ℕ → ℕ
typed_count word0 = bits 16 31 word0

-- an item is two words
abbrev pub item_words : ℕ
item_words = 2

-- whether both fit the payload
unfoldable pub payload_fits : ℕ → Bool
payload_fits word0 = leb (untyped_count word0 + item_words * typed_count word0) payload_words

-- the untyped part of a received block, which starts at the first word of the payload: empty for a block of another length or whose counts do not fit
unfoldable pub untyped_part : List ℕ → List ℕ
untyped_part block =
    if eqb (length block) block_words && payload_fits (word block 0) then take (untyped_count (word block 0)) (drop head_words block) else []

-- where a block has an item's descriptor and, below it, its second word: from w59 downward
abbrev pub descriptor_at : ℕ → ℕ
descriptor_at item = block_words - 1 - item_words * item

abbrev pub second_at : ℕ → ℕ
second_at item = block_words - 2 - item_words * item

-- the fields of an item's second word: delegate (0: translate), H, and the hotspot. Bits 9 and 10 (D, G) and the rest are not read
abbrev pub delegate_bit : ℕ → ℕ
delegate_bit second = bits 0 0 second

abbrev pub hypervisor_bit : ℕ → ℕ
hypervisor_bit second = bits 11 11 second

abbrev pub hotspot_field : ℕ → ℕ
hotspot_field second = bits 12 31 second

-- the descriptor that the receiver is given: what it is shown of an item is nothing, for a reason, or a range
abbrev pub received_word : Received → ℕ
received_word (Err reason) = null
received_word (Ok range) = describe range

-- and the second word, by the one that was sent and by why the item is null: bit 0 is that of the sent one, bits 1 to 3 are the reason's number, and no other bit is set
abbrev pub received_second : (second why : ℕ) → ℕ
received_second second why = delegate_bit second + 2 * why

-- an item's outcome: what the receiver is shown, and the delegations it asks for
pub record Item : Type 0 where
  pub received : Received
  pub effects : List Effect

-- Delegate.

-- the source's domain: the sender's, or domain 0 where H is set and the sender is the root
unfoldable pub source_domain : ℕ → ℕ → ℕ
source_domain sender second = if eqb (hypervisor_bit second) 1 && eqb sender root then hypervisor else sender

-- the two sides of a delegation have the smaller order; the side of larger order has its base raised by the hotspot
abbrev pub smaller_order : Range → Range → ℕ
smaller_order item window = min item.order window.order

abbrev pub raised_base : Range → ℕ → ℕ → ℕ
raised_base side smaller hotspot = raised side.order smaller hotspot side.base

-- the delegations of an item, offset by offset
abbrev pub delegations : ℕ → ℕ → ℕ → Range → Range → List Effect
delegations from to hotspot item window =
    let o = smaller_order item window in
    listed (2 ^ o)
    (λ i.
    give (place_of to item.space (raised_base window o hotspot + i)) (place_of from item.space (raised_base item o hotspot + i)) item.mask)

-- where nothing is filled the item is null; otherwise it shows the destination with the item's mask
unfoldable pub delegate_item : State → ℕ → ℕ → ℕ → Match → Item
delegate_item s sender receiver second (Err reason) = record { received = Err reason; effects = [] }
delegate_item s sender receiver second (Ok (item, window)) =
    let o = smaller_order item window in
    let effects = delegations (source_domain sender second) receiver (hotspot_field second) item window in
    record {
      received =
          if eqb (filled effects s) 0 then Err NothingFilled
          else Ok (record { space = item.space; base = raised_base window o (hotspot_field second); order = o; mask = item.mask });
      effects = effects;
    }

-- Translate.

-- the first place of a list that is in a domain: its number plus 1, or 0 where there is none
unfoldable pub first_in : ℕ → List ℕ → ℕ
first_in domain [] = 0
first_in domain (place ∷ list) = if eqb (domain_of place) domain then place + 1 else first_in domain list

-- the nearest strict ancestor of a place in a domain: its number plus 1, or 0
unfoldable pub nearest : (ℕ → Cap) → ℕ → ℕ → ℕ
nearest caps domain place = first_in domain (ancestors caps place)

-- the bits of a mask that every one of some capabilities' permissions has
unfoldable pub common : ℕ → ℕ → (ℕ → Cap) → ℕ
common mask zero caps = mask
common mask (suc n) caps = delegated (common mask n caps) (caps n).permissions

-- whether a range lies inside another
abbrev pub inside : ℕ → ℕ → Range → Bool
inside base order window = leb window.base base && leb (base + 2 ^ order) (window.base + 2 ^ window.order)

-- the sender's place at an offset of its range, and the nearest ancestor of it with the receiver
abbrev pub sender_place : ℕ → Range → ℕ → ℕ
sender_place sender item i = place_of sender item.space (item.base + i)

abbrev pub ancestor_at : (ℕ → Cap) → ℕ → ℕ → Range → ℕ → ℕ
ancestor_at caps sender receiver item i = nearest caps receiver (sender_place sender item i)

-- R: the receiver's selector of the first one
abbrev pub translated_base : (ℕ → Cap) → ℕ → ℕ → Range → ℕ
translated_base caps sender receiver item = selector_of (ancestor_at caps sender receiver item 0 - 1)

-- whether every sender place has such an ancestor, each at R plus its offset, where R is aligned and the range from R on lies inside the window
unfoldable pub translates : (ℕ → Cap) → ℕ → ℕ → Range → Range → Bool
translates caps sender receiver item window =
    let base = translated_base caps sender receiver item in
    all_below (2 ^ item.order) (λ i. eqb (ancestor_at caps sender receiver item i) (place_of receiver item.space (base + i) + 1)) &&
    aligned item.order base && inside base item.order window

-- the item then shows R, the sender's order, and the bits of the mask that every sender permission has; otherwise it is null
unfoldable pub translate_item : State → ℕ → ℕ → Match → Item
translate_item s sender receiver (Err reason) = record { received = Err reason; effects = [] }
translate_item s sender receiver (Ok (item, window)) =
    record {
      received =
          if translates s.caps sender receiver item window then
          Ok
          (record {
            space = item.space;
            base = translated_base s.caps sender receiver item;
            order = item.order;
            mask = common item.mask (2 ^ item.order) (λ i. s.caps (sender_place sender item i));
          })
          else Err TranslationBroke;
      effects = [];
    }

-- The transfer.

-- the outcome of an item of two blocks, the sender's and the receiver's, on the state as it stands
unfoldable pub item_of : State → ℕ → ℕ → List ℕ → List ℕ → ℕ → Item
item_of s sender receiver source target i =
    let item = reading (word source (descriptor_at i)) in
    if eqb (delegate_bit (word source (second_at i))) 1
    then delegate_item s sender receiver (word source (second_at i)) (matched item (reading (word target delegate_window)))
    else translate_item s sender receiver (matched item (reading (word target translate_window)))

-- what has been transferred so far: the steps, the number of places filled, and the receiver's block
pub record Moved : Type 0 where
  pub effects : List Effect
  pub filled : ℕ
  pub block : List ℕ

-- before the items: the receiver's word 0 is the sender's, and the untyped words are copied
unfoldable pub untyped_copied : List ℕ → List ℕ → List ℕ
untyped_copied source target =
    let block = set target 0 (word source 0) in
    let u = untyped_count (word source 0) in
    take head_words block ++ take u (drop head_words source) ++ drop (head_words + u) block

-- after one more item, on the tables that those before it left: its steps, the places it fills, and its two words; in the second stands, above the kind, a number that goes by what
-- the receiver is shown
abbrev pub item_carried : (Received → ℕ) → State → ℕ → ℕ → List ℕ → List ℕ → ℕ → Moved → Moved
item_carried why s sender receiver source target i before =
    let now = run before.effects s in
    let item = item_of now sender receiver source target i in
    record {
      effects = before.effects ++ item.effects;
      filled = before.filled + filled item.effects now;
      block =
          set (set before.block (descriptor_at i) (received_word item.received)) (second_at i)
          (received_second (word source (second_at i)) (why item.received));
    }

-- after some items in turn; the number is why the item is null
unfoldable pub carried : State → ℕ → ℕ → List ℕ → List ℕ → ℕ → Moved
carried s sender receiver source target zero = record { effects = []; filled = 0; block = untyped_copied source target }
carried s sender receiver source target (suc i) =
    item_carried why_null s sender receiver source target i (carried s sender receiver source target i)

-- the whole message
abbrev pub transfer : State → ℕ → ℕ → List ℕ → List ℕ → Moved
transfer s sender receiver source target = carried s sender receiver source target (typed_count (word source 0))
