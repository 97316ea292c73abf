-- Range descriptors: a word that names a range of a space and a mask.
use Rattle.std.specs.Prelude.{Result, Ok, Err, ℕ, ◌+◌, ◌-◌, ◌*◌, ◌%◌, ◌^◌, ◌≤◌, ◌<◌, ◌≡◌, Bool, true, cond, ◌&&◌, ◌||◌, eqb, leb}
use Rattle.words.specs.Fields.{bits}
use Rattle.words.specs.Sizes.{object, spaces, selectors, greatest_order}
use Rattle.words.specs.Ranges.{aligned}
use Rattle.descriptor.specs.declared.Range.{Range}
use Rattle.descriptor.specs.declared.Reading.{Reading}
use Rattle.descriptor.specs.declared.Reading.TheVariants.{Null, Malformed, Good}
use Rattle.descriptor.specs.declared.Reason.{Reason}
use Rattle.descriptor.specs.declared.Reason.TheVariants.{NullDescriptor, MalformedDescriptor, TypesDiffer, NothingFilled, TranslationBroke}

-- the null descriptor
abbrev pub null : ℕ
null = 0

-- the fields of a descriptor
abbrev pub type_field : ℕ → ℕ
type_field word = bits 0 1 word

abbrev pub mask_field : ℕ → ℕ
mask_field word = bits 2 6 word

abbrev pub order_field : ℕ → ℕ
order_field word = bits 7 11 word

abbrev pub base_field : ℕ → ℕ
base_field word = bits 12 31 word

-- the type of a space's descriptors: 1 memory, 2 I/O, 3 object; type 0 is the null descriptor's
abbrev pub type_of : ℕ → ℕ
type_of space = space + 1

-- the word that has four fields
abbrev pub word_of : ℕ → ℕ → ℕ → ℕ → ℕ
word_of type mask order base = type + mask * 2 ^ 2 + order * 2 ^ 7 + base * 2 ^ 12

-- the descriptor of a range
abbrev pub describe : Range → ℕ
describe range = word_of (type_of range.space) range.mask range.order range.base

-- whether an order and a base are those of a range: the order is at most the space's greatest, the base is aligned, and a memory or I/O range ends within its space
unfoldable pub well_formed : ℕ → ℕ → ℕ → Bool
well_formed space order base = leb order (greatest_order space) && aligned order base && (eqb space object || leb (base + 2 ^ order) (selectors space))

-- a base as it is read: object bases wrap at the size of their space
unfoldable pub wrapped : ℕ → ℕ → ℕ
wrapped space base = cond (eqb space object) (base % selectors object) base

-- the range that a word of some space names, were it well formed
abbrev pub range_of : ℕ → ℕ → Range
range_of space word = record { space = space; base = wrapped space (base_field word); order = order_field word; mask = mask_field word }

-- what a word says where it stands for a descriptor: nothing where its type is 0, else a range, or no range at all
unfoldable pub reading : ℕ → Reading
reading word =
    let space = type_field word - 1 in
    cond (eqb (type_field word) 0) Null
    (cond (well_formed space (order_field word) (base_field word)) (Good (range_of space word)) Malformed)

-- an item's range and its window, or why the item is null
abbrev pub Match : Type 0
Match = Result (Range × Range) Reason

-- an item's range with its window: where both are ranges of one space. Otherwise the first reason that applies: one is null, one is malformed, their types differ
unfoldable pub matched : Reading → Reading → Match
matched Null Null = Err NullDescriptor
matched Null Malformed = Err NullDescriptor
matched Null (Good window) = Err NullDescriptor
matched Malformed Null = Err NullDescriptor
matched Malformed Malformed = Err MalformedDescriptor
matched Malformed (Good window) = Err MalformedDescriptor
matched (Good item) Null = Err NullDescriptor
matched (Good item) Malformed = Err MalformedDescriptor
matched (Good item) (Good window) = cond (eqb item.space window.space) (Ok (item, window)) (Err TypesDiffer)

-- the number of the reason why an item is null
abbrev pub reason_number : Reason → ℕ
reason_number NullDescriptor = 1
reason_number MalformedDescriptor = 2
reason_number TypesDiffer = 3
reason_number NothingFilled = 4
reason_number TranslationBroke = 5

-- what the receiver of an item is shown: a range, or nothing, for a reason
abbrev pub Received : Type 0
Received = Result Range Reason

-- why an item is null: the number of its reason, or 0 where it is not null
abbrev pub why_null : Received → ℕ
why_null (Err reason) = reason_number reason
why_null (Ok range) = 0

-- a word as a descriptor keeps it: any word of type 0 is the null descriptor
unfoldable pub kept : ℕ → ℕ
kept word = cond (eqb (type_field word) 0) null word

-- a range that lies in its space and has a mask of five bits
pub record Proper (range : Range) : Type 0 where
  pub space_small : range.space < spaces
  pub order_small : range.order ≤ greatest_order range.space
  pub base_aligned : aligned range.order range.base ≡ true
  pub ends_inside : range.base + 2 ^ range.order ≤ selectors range.space
  pub mask_small : range.mask < 2 ^ 5

-- what is read is a proper range, if it is one
abbrev pub ReadProper : Reading → Type 0
ReadProper read = (range : Range) → read ≡ Good range → Proper range

-- what an item shows is a proper range, if it shows one
abbrev pub ShownProper : Received → Type 0
ShownProper received = (range : Range) → received ≡ Ok range → Proper range

-- The round trips: the fields of a word make that word again; a word made of fields has those fields; what is read from a range's descriptor is that range;
-- and what a word is read as is a proper range, if it is one
pub record RoundTrips : Type 0 where
  pub word_fields : (word : ℕ) → word < 2 ^ 32 → word_of (type_field word) (mask_field word) (order_field word) (base_field word) ≡ word
  pub fields_word : (type mask order base : ℕ) → type < 2 ^ 2 → mask < 2 ^ 5 → order < 2 ^ 5 → base < 2 ^ 20 →
      (type_field (word_of type mask order base) ≡ type) × (mask_field (word_of type mask order base) ≡ mask) ×
      (order_field (word_of type mask order base) ≡ order) × (base_field (word_of type mask order base) ≡ base)
  pub range_back : (range : Range) → Proper range → reading (describe range) ≡ Good range
  pub good_proper : (word : ℕ) (range : Range) → reading word ≡ Good range → Proper range
