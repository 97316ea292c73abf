-- The words before the loop's are copied.
use Prim.Native.Nat.{◌-◌}
use mathlib.Core.Path.{◌≡◌}
use lib.ListN.{length, drop}
use lib.Seq.{paste}
use Rattle.interface.specs.Message.{head_words}
use Rattle.blocks.proofs.copy_untyped.Given as goal

abbrev pub invariant-loop-i : goal.invariant-loop-i
invariant-loop-i l = record {
  same_length : length l.target ≡ length l.initial.target;
  copied : l.target ≡ paste l.initial.target head_words (drop head_words l.source) (l.i - head_words);
}
