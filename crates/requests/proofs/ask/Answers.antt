-- A hypercall with two empty blocks.
use borrow.Author.Rules.{rules}
use Rattle.interface.proofs.Tables.VerdictLaws.{answers}
use Rattle.requests.proofs.ask.Goals as goal

pub returns : goal.returns
returns c = search (answers, rules)
