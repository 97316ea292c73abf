-- What was found holds for the loop's place too. The measure is the depth, which falls on the way to a parent.
use Prim.Native.Nat.{◌<◌}
use mathlib.Core.Path.{◌≡◌}
use Rattle.words.specs.Sizes.{places}
use Rattle.interface.specs.Places.{cap_at}
use Rattle.interface.specs.Effects.{below}
use Rattle.descent.specs.Walks.{Marking}
use Rattle.descent.proofs.Search.settle.Given as goal

abbrev pub invariant-loop-above : goal.invariant-loop-above
invariant-loop-above l =
    Marking l.self.table.now l.self.range.first.0 l.self.range.size l.walked.0 l.known l.marked × (l.at.0 < places) × (l.found ≡ below (cap_at l.self.table.now) l.self.range.first.0 l.self.range.size l.at.0)

abbrev pub decreases-loop-above : goal.decreases-loop-above
decreases-loop-above l = (cap_at l.self.table.now l.at.0).depth
