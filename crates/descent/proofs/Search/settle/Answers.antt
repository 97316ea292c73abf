-- What was found holds for the loop's place too. The measure is the depth, which falls on the way to a parent.
use mathlib.Core.Path.{refl, sym, ◌∙◌}
use Rattle.interface.proofs.Basics.BoolLaws.{or_none_left}
use Rattle.descent.proofs.MarkLaws.{settled}
use Rattle.descent.proofs.WalkLaws.{parent_small, walk_shorter, below_outside}
use Rattle.descent.proofs.Search.settle.Goals as goal

pub loop-above-init : goal.loop-above-init
loop-above-init c =
    c.requires

pub set-requires : goal.set-requires
set-requires c =
    c.loop-above.invariant.1

pub set-requires-in-loop-above : goal.set-requires-in-loop-above
set-requires-in-loop-above c =
    c.loop-above.invariant.1

pub parent-requires : goal.parent-requires
parent-requires c =
    (c.args.self.now.sized, c.loop-above.invariant.1)

pub returns-in_default : goal.returns-in_default
returns-in_default c =
    settled c.loop-above.invariant.0 _ c.loop-above.invariant.2 c.set.ensures c.set-in-loop-above.ensures

pub is_set-requires : goal.is_set-requires
is_set-requires c =
    parent_small c.args.self.now.links c.loop-above.invariant.1 c.parent.ensures c.in-Some.is

pub returns-then-contains-lt : goal.returns-then-contains-lt
returns-then-contains-lt c =
    settled c.loop-above.invariant.0 _ c.loop-above.invariant.2 c.set.ensures c.set-in-loop-above.ensures

pub loop-above-smaller : goal.loop-above-smaller
loop-above-smaller c =
    walk_shorter c.args.self.now.links c.loop-above.invariant.1 c.parent.ensures c.in-Some.is _ refl

pub loop-above-preserved : goal.loop-above-preserved
loop-above-preserved c = (
  settled c.loop-above.invariant.0 _ c.loop-above.invariant.2 c.set.ensures c.set-in-loop-above.ensures,
  parent_small c.args.self.now.links c.loop-above.invariant.1 c.parent.ensures c.in-Some.is,
  c.loop-above.invariant.2 ∙
      sym
      (below_outside c.args.self.now.links c.loop-above.invariant.1 c.parent.ensures c.in-Some.is _ _
      c.contains.ensures (or_none_left _ _ (or_none_left _ _ c.if-contains-lt.false))),
)
