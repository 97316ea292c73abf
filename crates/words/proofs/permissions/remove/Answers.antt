-- What is removed is a part of the permissions, so the difference does not go below 0.
use mathlib.Core.Path.{refl}
use borrow.Author.Rules.{rules}
use lib.Bits.{and_le_l}
use Rattle.words.proofs.permissions.remove.Goals as goal

pub overflow_sub-result : goal.overflow_sub-result
overflow_sub-result c = search (and_le_l, rules)

pub returns : goal.returns
returns c = refl
