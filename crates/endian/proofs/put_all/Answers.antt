-- The numbers that the loop has passed are written.
use native.Mathlib.Omega.{arith}
use Rattle.endian.proofs.RunLaws.{none_yet, item_next, items_all}
use Rattle.endian.proofs.put_all.Goals as goal

pub loop-i-init : goal.loop-i-init
loop-i-init g c = let number = g.N.Number in
    none_yet number.own_bytes number.SIZE g.met.N.Number.so_many c.args.buffer.now c.args.at c.args.numbers.now

pub loop-i-preserved : goal.loop-i-preserved
loop-i-preserved g c = let number = g.N.Number in
    let turn = c.loop-i in
    item_next number.own_bytes number.SIZE g.met.N.Number.so_many c.args.buffer.now c.args.at c.args.numbers.now turn.buffer _ turn.i c.index-numbers-i.result
    (omega arith) c.index-numbers-i.is (omega arith) turn.invariant (rw c.SIZE.ensures at c.put.ensures)

pub returns : goal.returns
returns g c = let number = g.N.Number in
    items_all number.own_bytes number.SIZE g.met.N.Number.so_many c.args.buffer.now c.args.at c.args.numbers.now _ c.loop-i.i (omega arith) c.loop-i.invariant
