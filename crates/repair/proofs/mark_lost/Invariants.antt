-- The places before the loop's number that go are marked, and the live ones among them counted, whatever the records.
use Prim.Native.Nat.{◌≤◌}
use Rattle.repair.proofs.MendLaws.{LostBelow, CountedBelow}
use Rattle.repair.proofs.mark_lost.Given as goal

abbrev pub invariant-loop-at : goal.invariant-loop-at
invariant-loop-at l =
    (l.count ≤ l.at) × LostBelow l.table l.links l.at l.lost × CountedBelow l.table l.links l.at l.count
