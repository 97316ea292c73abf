-- The tests are the definition's.
use borrow.Author.Rules.{rules}
use Rattle.record_rules.proofs.RecordTests.{interrupt_so}
use Rattle.record_rules.proofs.interrupt_keeps.Goals as goal

pub returns : goal.returns
returns c = search (interrupt_so, rules)
