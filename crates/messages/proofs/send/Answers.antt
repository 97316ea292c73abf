-- A CALL with the two blocks of the message.
use borrow.Author.Rules.{rules}
use Rattle.messages.proofs.MessageLaws.{asked_one_item}
use Rattle.messages.proofs.send.Goals as goal

pub returns : goal.returns
returns c = search (asked_one_item, rules)
