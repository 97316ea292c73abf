-- The numbers that the loop has passed are written.
use mathlib.Core.Path.{◌≡◌}
use lib.ListN.{take}
use Rattle.endian.specs.Parts.{written}
use Rattle.endian.specs.Runs.{bytes_of_each}
use Rattle.endian.proofs.put_all.Given as goal

abbrev pub invariant-loop-i : goal.invariant-loop-i
invariant-loop-i g l = l.buffer ≡ written l.initial.buffer l.at (bytes_of_each g.N.Number.own_bytes (take l.i l.numbers))
