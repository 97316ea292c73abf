-- The words that the loop has passed are in the sum.
use native.Mathlib.Omega.{arith}
use Rattle.hip_format.proofs.SumLaws.{sum_next, sum_whole}
use Rattle.hip_format.proofs.word_sum.Goals as goal

pub loop-low-preserved : goal.loop-low-preserved
loop-low-preserved c = let turn = c.loop-low in
    sum_next c.args.bytes.now _ turn.low-index turn.sum _ c.as_chunks.ensures.front (omega (arith, c.as_chunks.ensures.front_len)) c.from_le_bytes-sum.ensures turn.invariant

pub returns : goal.returns
returns c = let turn = c.loop-low in
    sum_whole c.args.bytes.now turn.low-index turn.sum (omega (arith, c.as_chunks.ensures.front_len)) (omega arith) turn.invariant
