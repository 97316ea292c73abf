-- The test is whether the word leads nowhere.
use native.Mathlib.Omega.{arith}
use Rattle.layout.proofs.NumberLaws.{linked_nowhere, linked_some, linked_at}
use Rattle.layout.proofs.Place.linked.Goals as goal

pub returns-then-word : goal.returns-then-word
returns-then-word c = rw (linked_nowhere _ c.if-word.true)

pub overflow_sub-result : goal.overflow_sub-result
overflow_sub-result c = omega (arith, linked_some c.args.word c.if-word.false)

pub returns : goal.returns
returns c = let word = c.args.word in let some = linked_some word c.if-word.false in rw (linked_at word some.0 some.1)
