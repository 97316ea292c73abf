-- A null place goes; a live one of domain 0 stays; and any other stays where its chain is whole.
use mathlib.Core.Bool.{not}
use mathlib.Core.Path.{ap}
use native.Mathlib.Omega.{arith}
use Rattle.repair.proofs.MendLaws.{is_live_there, goes_null, stays_in_0, goes_broken}
use Rattle.repair.proofs.is_lost.Goals as goal

pub returns-then-not-is_live : goal.returns-then-not-is_live
returns-then-not-is_live c =
    goes_null _ _ c.load.ensures _ c.is_live.ensures _ (ap not c.if-not-is_live.true)

pub returns-then-number-lt-STRIDE : goal.returns-then-number-lt-STRIDE
returns-then-number-lt-STRIDE c =
    stays_in_0 _ _ c.load.ensures _ c.is_live.ensures _ (ap not c.if-not-is_live.false) c.number.ensures (omega arith)

pub is_whole-requires : goal.is_whole-requires
is_whole-requires c =
    (c.requires.0, c.requires.1, is_live_there _ _ c.load.ensures _ c.is_live.ensures (ap not c.if-not-is_live.false))

pub returns : goal.returns
returns c =
    goes_broken _ _ c.load.ensures _ c.is_live.ensures _ (ap not c.if-not-is_live.false) c.number.ensures (omega arith) _ c.is_whole.ensures
