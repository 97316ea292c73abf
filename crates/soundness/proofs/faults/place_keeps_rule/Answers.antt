-- Each arm is the test of its rule, and the rules that are left say nothing of places.
use borrow.Author.Rules.{rules}
use Rattle.interface.specs.Damage.{fixed_place}
use Rattle.place_rules.proofs.PlaceTests.{null_test, shallow_test}
use Rattle.soundness.proofs.FaultLaws.{place_rule, no_place_rule}
use Rattle.soundness.proofs.faults.place_keeps_rule.Goals as goal

pub returns-in-2 : goal.returns-in-2
unfolding fixed_place
returns-in-2 c = search (place_rule, rules)

pub returns-in-10 : goal.returns-in-10
returns-in-10 c = search (place_rule, null_test, rules)

pub returns-in-11 : goal.returns-in-11
returns-in-11 c = search (place_rule, rules)

pub returns-in-12 : goal.returns-in-12
returns-in-12 c = search (place_rule, shallow_test, rules)

pub returns-in_default : goal.returns-in_default
returns-in_default c = search (no_place_rule, rules)
