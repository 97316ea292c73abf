-- The rules of damage by their numbers, and the lowest number that a test fails of.
use Rattle.std.specs.Prelude.{ℕ, ◌-◌, Bool, true, not, ltb, get_or, if◌then◌else◌}
use Rattle.std.specs.declared.option.Option.{Option}
use Rattle.std.specs.declared.option.Option.TheVariants.{Some, None}
use Rattle.interface.specs.Basics.{lowest}
use Rattle.interface.specs.Damage.{Rule, of_records, rules_of_damage}

-- the lowest number below one that a test fails of, and that one where it fails of none
unfoldable pub lowest_failing : ℕ → (ℕ → Bool) → ℕ
lowest_failing n test = lowest n (λ i. not (test i))

-- the same, if the test fails of one
abbrev pub first_failing : ℕ → (ℕ → Bool) → Option ℕ
first_failing n test = let low = lowest_failing n test in if ltb low n then Some low else None

-- the numbers of the first rule after that of lengths, and of the last
abbrev pub first_rule : ℕ
first_rule = 2

abbrev pub last_rule : ℕ
last_rule = 12

-- the rule of damage of a number
abbrev pub rule_of : ℕ → Rule
rule_of number = get_or rules_of_damage (number - first_rule) (of_records number (λ s r. true))
