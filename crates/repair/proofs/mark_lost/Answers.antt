-- The places before the loop's number that go are marked, and the live ones among them counted, whatever the records.
use mathlib.Core.Path.{◌∙◌}
use native.Mathlib.Omega.{arith}
use Rattle.repair.proofs.MendLaws.{none_lost, lost_more, lost_all, none_counted, counted_more, counted_same}
use Rattle.repair.proofs.mark_lost.Goals as goal
use Rattle.repair.proofs.mark_lost.Goals.{then-goes-is_live, else-goes-is_live}

pub loop-at-init : goal.loop-at-init
loop-at-init c =
    (omega arith, none_lost _ _ c.requires.1, none_counted _ _)

pub loop-at-preserved : goal.loop-at-preserved
loop-at-preserved c =
    let inv = c.loop-at.invariant in
    let marked = lost_more _ _ _ inv.1 c.counted-place.ensures _ c.is_lost-goes.ensures c.set.ensures in
    let table = c.args.table.now in
    let links = c.args.links.now in
    elim c.if-goes-is_live.branch [
      | then-goes-is_live w ↦ (
        omega (arith, w.count-is, inv.0),
        marked,
        (λ objects told. w.count-is ∙ counted_more table links _ _ inv.2 c.counted-place.ensures _ c.is_lost-goes.ensures c.load.ensures _ c.is_live.ensures w.if-goes-is_live.true objects told),
      )
      | else-goes-is_live w ↦ (
        omega (arith, w.count-is, inv.0),
        marked,
        (λ objects told. w.count-is ∙ counted_same table links _ _ inv.2 c.counted-place.ensures _ c.is_lost-goes.ensures c.load.ensures _ c.is_live.ensures w.if-goes-is_live.false objects told),
      )
    ]

pub returns : goal.returns
returns c =
    let inv = c.loop-at.invariant in
    lost_all _ _ _ _ (omega arith) inv.1 inv.2
