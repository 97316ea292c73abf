-- The table shows what the delegations before the loop's offset make of it, and the count is how many of them filled a place.
use Rattle.delegation.proofs.DelegateLaws.{Going}
use Rattle.delegation.proofs.delegate.Given as goal

abbrev pub invariant-loop-i : goal.invariant-loop-i
invariant-loop-i l =
    Going l.initial.table l.from l.to l.hotspot l.pair.item l.pair.window l.order l.item_offset l.window_offset l.size l.table l.count l.i
