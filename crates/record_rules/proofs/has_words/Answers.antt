-- The tests are the definition's: four words, and those after them.
use borrow.Author.Rules.{rules}
use Rattle.record_rules.proofs.RecordTests.{has_words_so}
use Rattle.record_rules.proofs.has_words.Goals as goal

pub returns : goal.returns
returns c = search (has_words_so, rules)
