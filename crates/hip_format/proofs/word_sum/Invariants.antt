-- The words that the loop has passed are in the sum.
use Prim.Native.Nat.{◌+◌, ◌*◌, ◌%◌}
use mathlib.Core.Path.{◌≡◌}
use lib.ListN.{drop}
use Rattle.hip_format.specs.Format.{word_sum}
use Rattle.hip_format.proofs.word_sum.Given as goal

abbrev pub invariant-loop-low : goal.invariant-loop-low
invariant-loop-low l = (l.sum + word_sum (drop (2 * l.low-index) l.bytes)) % 65536 ≡ word_sum l.bytes % 65536
