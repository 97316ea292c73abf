-- What the functions over domain 0 cite beside the rule of damage: its stretches, and words that rise by steps.
use Rattle.std.specs.Prelude.{◌≡◌, ℕ, ◌+◌, ◌-◌, ◌*◌, ◌%◌, ◌^◌, ◌<◌, ◌≤◌, Bool, ◌||◌, List, ◌==◌}
use Rattle.words.specs.Sizes.{stride, place_words, records}
use Rattle.interface.specs.Basics.{word, all_below}
use Rattle.interface.specs.Places.{parentless}
use Rattle.interface.specs.Boot.{boot_cap}

-- the places of a stretch of domain 0 are held each against the one before it, so many at a time
abbrev pub steps : ℕ
steps = 9

-- whether a word of a place is a step from that of the place before it: the same or one more, where 0 comes after the greatest
abbrev pub is_step : ℕ → ℕ → Bool
is_step before after = after == before || after == (before + 1) % 2 ^ 32

-- whether each word of so many places after one is a step from that of the place before it
abbrev pub rising : List ℕ → ℕ → ℕ → Bool
rising table first count =
    all_below (place_words * count) (λ i. is_step (word table (place_words * first + i)) (word table (place_words * first + i + place_words)))

-- a stretch of domain 0, from its first place to its last: resources rise by one from a start, and the permissions are the same
pub record Stretch (first last : ℕ) : Type 0 where
  pub begin : ℕ
  pub permissions : ℕ
  pub after_begin : begin ≤ first
  pub few : permissions < records
  pub long : first + steps ≤ last
  pub in_domain : last < stride
  pub as_boot : (p : ℕ) → first ≤ p → p ≤ last → boot_cap p ≡ parentless (p - begin) permissions
