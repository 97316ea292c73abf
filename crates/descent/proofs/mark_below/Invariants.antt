-- The places of the domains before the loop's are marked; in each, those of other spaces are passed over.
use Prim.Native.Nat.{◌*◌}
use Rattle.words.specs.Sizes.{stride}
use Rattle.descent.specs.Walks.{Marking}
use Rattle.descent.proofs.mark_below.Given as goal

abbrev pub invariant-loop-domain : goal.invariant-loop-domain
invariant-loop-domain l =
    Marking l.table l.fn.range.first.0 l.fn.range.size (l.domain * stride) l.known l.marked
