-- The four numbers one after the other.
use Rattle.hip_writer.proofs.RunLaws.{memory_written}
use Rattle.hip_writer.proofs.put_memory.Goals as goal

pub returns : goal.returns
returns c = let memory = c.args.memory in
    memory_written c.args.buffer.now _ _ _ _ c.args.at memory.address memory.size _ memory.auxiliary memory.kind c.requires.room c.put.ensures c.put-2.ensures
    c.requires.kind_fits c.cast_unsigned.ensures c.put-3.ensures c.put-4.ensures
