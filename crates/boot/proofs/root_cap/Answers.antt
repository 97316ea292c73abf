-- The space decides as in the definition.
use borrow.Author.Rules.{rules}
use Rattle.boot.proofs.BootCapLaws.{root_held, root_in_memory, root_elsewhere}
use Rattle.boot.proofs.root_cap.Goals as goal

pub returns-then-space-eq-OBJECT : goal.returns-then-space-eq-OBJECT
returns-then-space-eq-OBJECT c = search (root_held, rules)

pub returns-then-space-eq-MEMORY : goal.returns-then-space-eq-MEMORY
returns-then-space-eq-MEMORY c = search (root_in_memory, rules)

pub returns : goal.returns
returns c = search (root_elsewhere, rules)
