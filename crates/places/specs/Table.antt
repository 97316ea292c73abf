-- A place table as a list of words: its length, and what a change of it promises.
use Rattle.std.specs.Prelude.{ℕ, ◌≡◌, Bool, List, length}
use Rattle.interface.specs.Places.{place_table_words, cap_at, cap_table}
use Rattle.interface.specs.Effects.{fills, given_caps}

-- a list that has the place table's length
abbrev pub Sized : List ℕ → Type 0
Sized table = length table ≡ place_table_words

-- a delegation of one place: whether it fills the destination, and the table it leaves
pub record Given (before after : List ℕ) (destination source mask : ℕ) (filled : Bool) : Type 0 where
  pub is_filled : filled ≡ fills (cap_at before) destination source mask
  pub leaves : after ≡ cap_table (given_caps (cap_at before) destination source mask)
