-- The test is the definition's, and where it passes the selector is no lower than the first of the root's.
use borrow.Author.Rules.{rules}
use Rattle.boot.proofs.BootCapLaws.{selector_from, root_holds, root_holds_none}
use Rattle.boot.proofs.root_object.Goals as goal

pub overflow_sub-number : goal.overflow_sub-number
overflow_sub-number c = search (selector_from, rules)

pub returns-then-number : goal.returns-then-number
returns-then-number c = search (root_holds, rules)

pub returns : goal.returns
returns c = search (root_holds_none, rules)
