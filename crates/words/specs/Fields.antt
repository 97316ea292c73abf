-- Fields of a word. Words are unsigned and have 32 bits, counted from 0.
use Rattle.std.specs.Prelude.{ℕ, ◌+◌, ◌-◌, ◌/◌, ◌%◌, ◌^◌}

-- the number that bits `low` to `high` of a word hold
abbrev pub bits : ℕ → ℕ → ℕ → ℕ
bits low high word = word / 2 ^ low % 2 ^ (high + 1 - low)

-- the greatest word
abbrev pub greatest_word : ℕ
greatest_word = 2 ^ 32 - 1
