-- The tests that are left of the rules.
use borrow.Author.Rules.{rules}
use Rattle.record_rules.proofs.RecordTests.{semaphore_so}
use Rattle.record_rules.proofs.semaphore_keeps.Goals as goal

pub returns : goal.returns
returns c = search (semaphore_so, rules)
