-- Texts in a buffer.
use Rattle.std.specs.Prelude.{ℕ, ◌+◌, ◌-◌, ◌≤◌, ◌≡◌, List, ◌∷◌, ◌++◌, length, replicate}
use Rattle.io.specs.Digits.{last_digits}
use Rattle.endian.specs.Parts.{written}
use Rattle.interface.specs.Journal.{blank}

-- a text written into a buffer at a place: the buffer that it leaves, and where in it the text ends
pub record Wrote (before : List ℕ) (at : ℕ) (text after : List ℕ) (end : ℕ) : Type 0 where
  pub leaves : after ≡ written before at text
  pub ends : end ≡ at + length text
  pub fits : end ≤ length after

-- a text with blanks before it, so that it has at least so many bytes
abbrev pub padded : ℕ → List ℕ → List ℕ
padded width text = replicate (width - length text) blank ++ text

-- "0x" and the last digits of a number in base 16, so many of them
abbrev pub hexadecimal : ℕ → ℕ → List ℕ
hexadecimal count number = 48 ∷ 120 ∷ last_digits 16 count number
