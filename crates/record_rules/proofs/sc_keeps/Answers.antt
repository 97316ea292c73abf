-- The tests are the definition's.
use borrow.Author.Rules.{rules}
use Rattle.record_rules.proofs.RecordTests.{sc_not, sc_so}
use Rattle.record_rules.proofs.sc_keeps.Goals as goal

pub returns-then-kind_of-number : goal.returns-then-kind_of-number
returns-then-kind_of-number c = search (sc_not, rules)

pub returns : goal.returns
returns c = search (sc_so, rules)
