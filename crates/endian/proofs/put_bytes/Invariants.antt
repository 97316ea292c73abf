-- The bytes that the loop has passed are written.
use mathlib.Core.Path.{◌≡◌}
use lib.Seq.{paste}
use Rattle.endian.proofs.put_bytes.Given as goal

abbrev pub invariant-loop-i : goal.invariant-loop-i
invariant-loop-i l = l.buffer ≡ paste l.initial.buffer l.at l.bytes l.i
