-- The bytes that the loop has passed are written.
use native.Mathlib.Omega.{arith}
use lib.Seq.{paste-zero}
use Rattle.endian.proofs.PartLaws.{copied_more, copied_whole}
use Rattle.endian.proofs.put_bytes.Goals as goal

pub loop-i-init : goal.loop-i-init
loop-i-init c = paste-zero c.args.buffer.now c.args.at c.args.bytes.now

pub loop-i-preserved : goal.loop-i-preserved
loop-i-preserved c = let start = c.args in
    let turn = c.loop-i in
    copied_more start.buffer.now start.bytes.now turn.buffer start.at turn.i (omega arith) (omega arith) turn.invariant

pub returns : goal.returns
returns c = let start = c.args in
    let turn = c.loop-i in
    copied_whole start.buffer.now start.bytes.now turn.buffer start.at turn.i (omega arith) turn.invariant
