-- The walk so far: the chain of the first place is whole exactly where that of the place come to is, within the places left.
use mathlib.Core.Bool.{not}
use Prim.Native.Nat.{◌+◌, ◌-◌}
use mathlib.Core.Path.{◌≡◌, refl, ap}
use native.Mathlib.Omega.{arith}
use Rattle.words.specs.Sizes.{greatest_depth}
use Rattle.repair.proofs.WalkLaws.{walk_starts, walk_broken, walk_ends, walk_above, walk_on, walk_over}
use Rattle.repair.proofs.is_whole.Goals as goal

pub loop-init : goal.loop-init
loop-init c =
    (c.requires.1, walk_starts _ _ _ c.requires.2 refl)

pub is_set-requires : goal.is_set-requires
is_set-requires c = c.loop.invariant.0

pub returns-then-not-is_set : goal.returns-then-not-is_set
returns-then-not-is_set c =
    walk_broken _ _ _ _ _ c.loop.invariant.1 c.loop.invariant.0 (omega arith) _ c.is_set.ensures (ap not c.if-not-is_set.true)

pub parent-requires : goal.parent-requires
parent-requires c =
    (c.requires.0, c.loop.invariant.0)

pub returns-in_default : goal.returns-in_default
returns-in_default c =
    walk_ends _ _ _ _ _ c.loop.invariant.1 c.loop.invariant.0 (omega arith) _ c.is_set.ensures (ap not c.if-not-is_set.false) c.parent.ensures c.in_default.is

pub loop-preserved : goal.loop-preserved
loop-preserved c =
    let inv = c.loop.invariant in
    let fewer : greatest_depth + 1 - (c.loop.counter + 1) ≡ greatest_depth + 1 - c.loop.counter - 1 = omega arith in (
      walk_above _ _ _ _ _ inv.1 inv.0 (omega arith) _ c.is_set.ensures (ap not c.if-not-is_set.false) c.parent.ensures c.in-Some.is,
      rw fewer (walk_on _ _ _ _ _ inv.1 inv.0 (omega arith) _ c.is_set.ensures (ap not c.if-not-is_set.false) c.parent.ensures c.in-Some.is),
    )

pub returns : goal.returns
returns c = walk_over _ _ _ _ _ (omega arith) c.loop.invariant.1
