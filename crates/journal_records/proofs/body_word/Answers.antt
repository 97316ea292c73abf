-- A word lies past the end, or is the first of the part that begins with it.
use borrow.Author.Rules.{rules}
use Rattle.journal_records.proofs.BodyLaws.{word_past_end, word_of_part}
use Rattle.journal_records.proofs.body_word.Goals as goal

pub returns-then-body-index : goal.returns-then-body-index
returns-then-body-index c = word_past_end c.args.body.now c.args.index c.if-body-index.true

pub returns : goal.returns
returns c = search (word_of_part, rules)
