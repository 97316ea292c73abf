-- The descriptors that the loop has passed are written.
use Prim.Native.Nat.{◌+◌, ◌*◌}
use native.Mathlib.Omega.{arith}
use borrow.Author.Rules.{rules}
use Rattle.hip_format.specs.Writer.{memory_given}
use Rattle.hip_writer.proofs.RunLaws.{no_memory_yet, memory_more, kind_stored}
use Rattle.hip_writer.proofs.put_memories.Goals as goal

pub loop-i-init : goal.loop-i-init
loop-i-init c = no_memory_yet c.args.buffer.now c.args.at (memory_given c.args.addresses.now c.args.sizes.now c.args.kinds.now c.args.auxiliaries.now)

pub loop-i-preserved : goal.loop-i-preserved
loop-i-preserved c = let turn = c.loop-i in
    let what = memory_given c.args.addresses.now c.args.sizes.now c.args.kinds.now c.args.auxiliaries.now in
    let stored = kind_stored turn.buffer _ (c.args.at + 24 * turn.i) (what turn.i).address (what turn.i).size (what turn.i).auxiliary (what turn.i).kind (search rules)
    c.put_memory.ensures in
    memory_more c.args.buffer.now c.args.at what turn.buffer _ turn.i (omega arith) turn.invariant stored
