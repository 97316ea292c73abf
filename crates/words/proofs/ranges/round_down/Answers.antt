-- The size that the number is divided by is the order's, and the remainder is not above the number.
use native.Mathlib.Nat.{mod-le}
use borrow.Author.Rules.{rules}
use lib.Pow.{pow_pos}
use Rattle.words.proofs.ranges.round_down.Goals as goal

pub nonzero_rem-result : goal.nonzero_rem-result
nonzero_rem-result c = rw c.size.ensures (search (pow_pos, rules))

pub overflow_sub-result : goal.overflow_sub-result
overflow_sub-result c = search (mod-le, rules)

pub returns : goal.returns
returns c = rw c.size.ensures
