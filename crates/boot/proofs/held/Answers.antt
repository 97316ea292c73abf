-- The object decides as in the definition.
use borrow.Author.Rules.{rules}
use Rattle.boot.proofs.BootCapLaws.{held_object, held_none}
use Rattle.boot.proofs.held.Goals as goal

pub returns-in-Some : goal.returns-in-Some
returns-in-Some c = search (held_object, rules)

pub returns-in-None : goal.returns-in-None
returns-in-None c = search (held_none, rules)
