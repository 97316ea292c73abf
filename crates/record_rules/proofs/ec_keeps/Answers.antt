-- The tests are the definition's.
use borrow.Author.Rules.{rules}
use Rattle.record_rules.proofs.RecordTests.{ec_not, ec_so}
use Rattle.record_rules.proofs.ec_keeps.Goals as goal

pub returns-then-kind_of-ne-EC : goal.returns-then-kind_of-ne-EC
returns-then-kind_of-ne-EC c = search (ec_not, rules)

pub returns : goal.returns
returns c = search (ec_so, rules)
