-- The descriptors that the loop has passed are written.
use mathlib.Core.Path.{◌≡◌}
use Rattle.endian.specs.Parts.{written}
use Rattle.endian.specs.Runs.{bytes_of_each, spaced}
use Rattle.hip_format.specs.Format.{memory_bytes}
use Rattle.hip_format.specs.Writer.{memory_given}
use Rattle.hip_writer.proofs.put_memories.Given as goal

abbrev pub invariant-loop-i : goal.invariant-loop-i
invariant-loop-i l = l.buffer ≡ written l.initial.buffer l.at (bytes_of_each memory_bytes (spaced (memory_given l.addresses l.sizes l.kinds l.auxiliaries) 0 1 l.i))
