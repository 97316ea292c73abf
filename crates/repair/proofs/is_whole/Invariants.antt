-- The walk so far: the chain of the first place is whole exactly where that of the place come to is, within the places left.
use Prim.Native.Nat.{◌+◌, ◌-◌, ◌<◌}
use Rattle.words.specs.Sizes.{places, greatest_depth}
use Rattle.repair.proofs.WalkLaws.{Walked}
use Rattle.repair.proofs.is_whole.Given as goal

abbrev pub invariant-loop : goal.invariant-loop
invariant-loop l = (l.at.0 < places) × Walked l.table l.links l.initial.at.0 l.at.0 (greatest_depth + 1 - l.counter)
