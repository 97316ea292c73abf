-- The parts one after the other, and the checksum over 0.
use mathlib.Core.Path.{refl, sym}
use Prim.Native.Nat.{◌-◌}
use native.Mathlib.Omega.{arith}
use lib.Seq.{length-take-le}
use Rattle.hip_writer.proofs.RunLaws.{page_written_lem}
use Rattle.hip_writer.proofs.put_page.Goals as goal

pub slice_bounds-put_bytes-end : goal.slice_bounds-put_bytes-end
slice_bounds-put_bytes-end c = sym (length-take-le (c.args.start - 56) c.args.cpus.now (omega (arith, c.requires.start_value)))

pub put_bytes-requires : goal.put_bytes-requires
put_bytes-requires c = rw (length-take-le (c.args.start - 56) c.args.cpus.now (omega (arith, c.requires.start_value))) (omega (arith, c.requires))

pub returns : goal.returns
returns c = record {
  value = refl;
  buffer_after = page_written_lem c.args.header c.args.cpus.now c.args.addresses.now c.args.sizes.now c.args.kinds.now c.args.auxiliaries.now c.args.buffer.now
      _ _ _ _ c.args.start c.args.count _ c.requires.start_value c.requires.count_value refl c.put_header.ensures c.put_bytes.ensures c.put_memories.ensures
      c.put_checksum.ensures;
}
