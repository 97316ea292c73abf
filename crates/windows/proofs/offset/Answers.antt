-- The part that a delegation uses ends within its side.
use native.Mathlib.Omega.{arith}
use lib.Pow.{pow_pos}
use Rattle.windows.proofs.WindowLaws.{offset_is, offset_ends}
use Rattle.windows.proofs.offset.Goals as goal

pub nonzero_rem-hotspot : goal.nonzero_rem-hotspot
nonzero_rem-hotspot c = omega (arith, pow_pos c.args.side)

pub returns : goal.returns
returns c = let sized = c.size.ensures in
    let down = c.round_down.ensures in
    (offset_is _ _ _ _ _ sized down, offset_ends _ _ _ _ _ sized down c.requires.1)
