-- The tests are the definition's.
use borrow.Author.Rules.{rules}
use Rattle.record_rules.proofs.RecordTests.{ec_past, ec_number}
use Rattle.record_rules.proofs.is_ec.Goals as goal

pub returns-then-number-ge-RECORDS : goal.returns-then-number-ge-RECORDS
returns-then-number-ge-RECORDS c = search (ec_past, rules)

pub returns : goal.returns
returns c = search (ec_number, rules)
