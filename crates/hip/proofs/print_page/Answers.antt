-- What waits lies in the buffer. The measure is how many lines are left: each call spells one more at least.
use native.Mathlib.Omega.{arith}
use Rattle.hip.proofs.PrintLaws.{spells_more}
use Rattle.hip.proofs.print_page.Goals as goal

pub loop-spelled-smaller : goal.loop-spelled-smaller
loop-spelled-smaller g c = let turn = c.loop-spelled in
    let further = spells_more (omega (arith, c.loop-spelled-test.true, turn.invariant.2)) (omega (arith, c.requires, turn.invariant.0)) c.spell-spelled-in-loop-spelled.ensures in
    omega (arith, further, c.spell-spelled-in-loop-spelled.ensures.total, turn.invariant.2, c.loop-spelled-test.true)
