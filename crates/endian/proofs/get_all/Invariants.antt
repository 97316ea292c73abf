-- The numbers that the loop has passed are read, and the others are as they were.
use mathlib.Core.Path.{◌≡◌}
use mathlib.Core.List.{◌++◌}
use lib.ListN.{drop}
use Rattle.endian.specs.Runs.{spaced}
use Rattle.endian.proofs.get_all.Given as goal

abbrev pub invariant-loop-i : goal.invariant-loop-i
invariant-loop-i g l = l.numbers ≡ spaced (g.N.Number.standing l.bytes) l.at g.N.Number.SIZE l.i ++ drop l.i l.initial.numbers
