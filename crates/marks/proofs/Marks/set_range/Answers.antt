-- The places of the range before the loop's offset are marked.
use native.Mathlib.Omega.{arith}
use Rattle.marks.proofs.PlaceBitLaws.{range_none, range_more, range_all}
use Rattle.marks.proofs.Marks.set_range.Goals as goal

pub loop-offset-init : goal.loop-offset-init
loop-offset-init c = range_none _ _ _

pub loop-offset-preserved : goal.loop-offset-preserved
loop-offset-preserved c =
    range_more _ _ _ _ c.loop-offset.invariant c.after.ensures c.set.ensures

pub returns : goal.returns
returns c =
    range_all _ _ _ _ _ c.loop-offset.invariant (omega arith)
