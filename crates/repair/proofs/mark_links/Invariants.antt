-- The places before the loop's number that keep the rules are marked.
use Rattle.interface.specs.Places.{view}
use Rattle.repair.specs.Mending.{link_keeps}
use Rattle.repair.proofs.MarkingLaws.{MarkedBelow}
use Rattle.repair.proofs.mark_links.Given as goal

abbrev pub invariant-loop-at : goal.invariant-loop-at
invariant-loop-at l = MarkedBelow (link_keeps (view l.table l.objects)) l.at l.links
