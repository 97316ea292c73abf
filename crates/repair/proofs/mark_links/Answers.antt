-- The places before the loop's number that keep the rules are marked.
use native.Mathlib.Omega.{arith}
use Rattle.repair.proofs.MarkingLaws.{none_marked, marked_more, marked_all}
use Rattle.repair.proofs.mark_links.Goals as goal

pub loop-at-init : goal.loop-at-init
loop-at-init c = none_marked _ c.requires.2

pub loop-at-preserved : goal.loop-at-preserved
loop-at-preserved c = marked_more _ _ _ c.loop-at.invariant c.counted.ensures c.link_keeps-keeps.ensures c.set.ensures

pub returns : goal.returns
returns c = marked_all _ _ (omega arith) c.loop-at.invariant
