-- The tests are the definition's, and the number of PDs before a record is far below the greatest word.
use native.Mathlib.Omega.{arith}
use Rattle.record_rules.specs.RecordKeeping.{records_in}
use Rattle.record_rules.proofs.PdLaws.{pds_small}
use Rattle.record_rules.proofs.RecordTests.{pd_not, pd_so}
use borrow.Author.Rules.{rules}
use Rattle.record_rules.proofs.pd_keeps.Goals as goal

pub returns-then-kind_of-ne-PD : goal.returns-then-kind_of-ne-PD
returns-then-kind_of-ne-PD c = search (pd_not, rules)

pub overflow_add-result : goal.overflow_add-result
overflow_add-result c = omega (arith, pds_small (records_in c.args.objects.now) c.args.number)

pub returns : goal.returns
returns c = search (pd_so, rules)
