-- The tests are the definition's.
use borrow.Author.Rules.{rules}
use Rattle.objects.proofs.GreatestLaws.{greatest_memory, greatest_io, greatest_object}
use Rattle.objects.proofs.greatest_permissions.Goals as goal

pub returns-then-space-eq-MEMORY : goal.returns-then-space-eq-MEMORY
returns-then-space-eq-MEMORY c = search (greatest_memory, rules)

pub returns-then-space-eq-IO : goal.returns-then-space-eq-IO
returns-then-space-eq-IO c = search (greatest_io, rules)

pub returns : goal.returns
returns c = search (greatest_object, rules)
