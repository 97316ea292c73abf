-- The places of the words before the loop's are marked.
use Prim.Native.Nat.{◌+◌, ◌*◌}
use Rattle.marks.specs.PlaceBits.{word_bits}
use Rattle.descent.specs.Walks.{Marking}
use Rattle.descent.proofs.Search.mark_run.Given as goal

abbrev pub invariant-loop-word : goal.invariant-loop-word
invariant-loop-word l =
    Marking l.self.table.now l.self.range.first.0 l.self.range.size (l.from.0 + l.word * word_bits) l.known l.marked
