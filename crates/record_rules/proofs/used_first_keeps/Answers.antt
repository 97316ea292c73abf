-- Each way out is a way of the definition.
use borrow.Author.Rules.{rules}
use Rattle.record_rules.proofs.RecordTests.{free_so, used_at_0, used_after}
use Rattle.record_rules.proofs.used_first_keeps.Goals as goal

pub returns-then-kind_of-eq-FREE : goal.returns-then-kind_of-eq-FREE
returns-then-kind_of-eq-FREE c = search (free_so, rules)

pub returns-then-number-eq0 : goal.returns-then-number-eq0
returns-then-number-eq0 c = search (used_at_0, rules)

pub returns : goal.returns
returns c = search (used_after, rules)
