-- The tests are the definition's: the words after the last that the kind names.
use borrow.Author.Rules.{rules}
use Rattle.record_rules.proofs.RecordTests.{unnamed_so}
use Rattle.record_rules.proofs.unnamed_keeps.Goals as goal

pub returns : goal.returns
returns c = search (unnamed_so, rules)
