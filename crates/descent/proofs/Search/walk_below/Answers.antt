-- The places on the walk are all below the range, or none is. The measure is the depth, which falls on the way to a parent.
use mathlib.Core.Path.{refl, ◌∙◌}
use Rattle.descent.proofs.MarkLaws.{told_either}
use Rattle.descent.proofs.WalkLaws.{comes_before, parent_small, walk_shorter, rootless_below, below_inside, below_outside}
use Rattle.descent.proofs.Search.walk_below.Goals as goal

pub loop-above-init : goal.loop-above-init
loop-above-init c =
    (c.requires.1, refl)

pub parent-requires : goal.parent-requires
parent-requires c =
    (c.args.self.now.sized, c.loop-above.invariant.0)

pub returns : goal.returns
returns c =
    rootless_below c.args.self.now.links c.loop-above.invariant.0 c.parent.ensures _ _ c.in_default.is ∙ c.loop-above.invariant.1

pub returns-then-contains : goal.returns-then-contains
returns-then-contains c =
    below_inside c.args.self.now.links c.loop-above.invariant.0 c.parent.ensures c.in-Some.is _ _
    c.contains.ensures c.if-contains.true ∙ c.loop-above.invariant.1

pub is_set-requires : goal.is_set-requires
is_set-requires c =
    parent_small c.args.self.now.links c.loop-above.invariant.0 c.parent.ensures c.in-Some.is

pub is_set-requires-then-lt-is_set : goal.is_set-requires-then-lt-is_set
is_set-requires-then-lt-is_set c =
    parent_small c.args.self.now.links c.loop-above.invariant.0 c.parent.ensures c.in-Some.is

pub returns-then-lt-is_set : goal.returns-then-lt-is_set
returns-then-lt-is_set c =
    c.is_set-then-lt-is_set.ensures ∙ told_either c.requires.0 _ (c.lt.ensures ∙ comes_before _ _) c.is_set.ensures c.if-lt-is_set.true ∙
    below_outside c.args.self.now.links c.loop-above.invariant.0 c.parent.ensures c.in-Some.is _ _
    c.contains.ensures c.if-contains.false ∙ c.loop-above.invariant.1

pub loop-above-smaller : goal.loop-above-smaller
loop-above-smaller c =
    walk_shorter c.args.self.now.links c.loop-above.invariant.0 c.parent.ensures c.in-Some.is _ refl

pub loop-above-preserved : goal.loop-above-preserved
loop-above-preserved c = (
  parent_small c.args.self.now.links c.loop-above.invariant.0 c.parent.ensures c.in-Some.is,
  below_outside c.args.self.now.links c.loop-above.invariant.0 c.parent.ensures c.in-Some.is _ _ c.contains.ensures
      c.if-contains.false ∙ c.loop-above.invariant.1,
)
