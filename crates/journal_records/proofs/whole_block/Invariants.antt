-- The block begins with the words that the loop has passed.
use Prim.Native.Nat.{◌+◌}
use mathlib.Core.Path.{◌≡◌}
use lib.ListN.{length, take}
use Rattle.words.specs.Sizes.{block_words}
use Rattle.interface.specs.Basics.{listed}
use Rattle.interface.specs.Journal.{body_word}
use Rattle.journal_records.proofs.whole_block.Given as goal

abbrev pub invariant-loop-i : goal.invariant-loop-i
invariant-loop-i l = (length l.block ≡ block_words) × (take l.i l.block ≡ listed l.i (λ k. body_word l.body (l.from + k)))
