-- The tests are the definition's.
use borrow.Author.Rules.{rules}
use Rattle.record_rules.proofs.RecordTests.{pt_not, pt_so}
use Rattle.record_rules.proofs.pt_keeps.Goals as goal

pub returns-then-kind_of-ne-PT : goal.returns-then-kind_of-ne-PT
returns-then-kind_of-ne-PT c = search (pt_not, rules)

pub returns : goal.returns
returns c = search (pt_so, rules)
