-- Each arm is the test of its rule, and the rules that are left say nothing of records.
use borrow.Author.Rules.{rules}
use Rattle.record_rules.proofs.PdLaws.{home_own}
use Rattle.soundness.proofs.FaultLaws.{record_rule, no_record_rule}
use Rattle.soundness.proofs.faults.record_keeps_rule.Goals as goal

pub ec_keeps-requires : goal.ec_keeps-requires
ec_keeps-requires c = search (home_own, rules)

pub returns-in-2 : goal.returns-in-2
returns-in-2 c = search (record_rule, rules)

pub returns-in-3 : goal.returns-in-3
returns-in-3 c = search (record_rule, rules)

pub returns-in-4 : goal.returns-in-4
returns-in-4 c = search (record_rule, rules)

pub returns-in-5 : goal.returns-in-5
returns-in-5 c = search (record_rule, rules)

pub returns-in-6 : goal.returns-in-6
returns-in-6 c = search (record_rule, rules)

pub returns-in-7 : goal.returns-in-7
returns-in-7 c = search (record_rule, rules)

pub returns-in-8 : goal.returns-in-8
returns-in-8 c = search (record_rule, rules)

pub returns-in-9 : goal.returns-in-9
returns-in-9 c = search (record_rule, rules)

pub returns-in_default : goal.returns-in_default
returns-in_default c = search (no_record_rule, rules)
