-- The numbers that the loop has passed are read, and the others are as they were.
use native.Mathlib.Omega.{arith}
use Rattle.endian.proofs.RunLaws.{none_read, read_more, all_read}
use Rattle.endian.proofs.get_all.Goals as goal

pub loop-i-init : goal.loop-i-init
loop-i-init g c = let number = g.N.Number in
    none_read (number.standing c.args.bytes.now) c.args.at number.SIZE c.args.numbers.now

pub loop-i-preserved : goal.loop-i-preserved
loop-i-preserved g c = let number = g.N.Number in
    let turn = c.loop-i in
    read_more (number.standing c.args.bytes.now) c.args.at number.SIZE c.args.numbers.now turn.numbers turn.i _ (omega arith) turn.invariant
    (rw c.SIZE.ensures at c.get.ensures)

pub returns : goal.returns
returns g c = let number = g.N.Number in
    all_read (number.standing c.args.bytes.now) c.args.at number.SIZE c.args.numbers.now _ c.loop-i.i (omega arith) c.loop-i.invariant
