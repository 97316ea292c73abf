-- The first free record decides all that follow. The loop's invariant: each record passed keeps the rules.
use borrow.Author.Rules.{rules}
use Rattle.interface.proofs.Basics.LoopLaws.{all_below_none, all_below_more, all_below_done, all_below_broken}
use Rattle.record_rules.proofs.RestLaws.{free_decides}
use Rattle.record_rules.proofs.records_keep.Goals as goal

pub loop-at-init : goal.loop-at-init
loop-at-init c = search (all_below_none, rules)

pub returns-then-kind_of-eq-FREE : goal.returns-then-kind_of-eq-FREE
returns-then-kind_of-eq-FREE c = search (free_decides, rules)

pub returns-then-not-record_keeps : goal.returns-then-not-record_keeps
returns-then-not-record_keeps c = search (all_below_broken, rules)

pub loop-at-preserved : goal.loop-at-preserved
loop-at-preserved c = search (all_below_more, rules)

pub returns : goal.returns
returns c = search (all_below_done, rules)
