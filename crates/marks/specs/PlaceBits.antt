-- A bit for each place, in words by the places' numbers.
use Rattle.std.specs.Prelude.{ℕ, ◌+◌, ◌/◌, ◌%◌, ◌^◌, ◌≤◌, ◌<◌, ◌≡◌, Bool, true, false, ◌&&◌, ◌||◌, List, MatchOption, Option, eqb}
use Rattle.words.specs.Sizes.{places}
use Rattle.layout.specs.declared.Place.{Place}
use Rattle.interface.specs.Basics.{word, gather}
use Rattle.interface.specs.Effects.{among}

-- the bits of a word
abbrev pub word_bits : ℕ
word_bits = 32

-- the words that have a bit for each place
abbrev pub mark_words : ℕ
mark_words = places / word_bits

-- a number's bit in some words
unfoldable pub bit_at : List ℕ → ℕ → Bool
bit_at words number = eqb (word words (number / word_bits) / 2 ^ (number % word_bits) % 2) 1

-- marks with one more set if asked
pub record SetIf (asked : Bool) (before : List ℕ) (number : ℕ) (after : List ℕ) : Type 0 where
  pub bits : (other : ℕ) → bit_at after other ≡ ((asked && eqb other number) || bit_at before other)

-- marks with those of some places set too if asked
pub record RangeToo (asked : Bool) (before : List ℕ) (first size : ℕ) (after : List ℕ) : Type 0 where
  pub bits : (other : ℕ) → bit_at after other ≡ (bit_at before other || (asked && among first size other))

-- the marked places, rising
abbrev pub marked_places : List ℕ → List ℕ
marked_places marks = gather places (bit_at marks)

-- no place from one on is marked
pub record NoneMarked (marks : List ℕ) (from : ℕ) : Type 0 where
  pub unmarked : (place : ℕ) → from ≤ place → place < places → bit_at marks place ≡ false

-- the first place from one on that is marked
pub record NextMarked (marks : List ℕ) (from found : ℕ) : Type 0 where
  pub later : from ≤ found
  pub ends : found < places
  pub unmarked : (place : ℕ) → from ≤ place → place < found → bit_at marks place ≡ false
  pub marked : bit_at marks found ≡ true

-- the first place from one on that is marked, if there is one, and where those after it begin
abbrev pub Next : List ℕ → ℕ → Option Place → ℕ → Type 0
Next marks from found after = MatchOption found (NoneMarked marks from × (after ≡ places)) (λ place. NextMarked marks from place.0 × (after ≡ place.0 + 1))
