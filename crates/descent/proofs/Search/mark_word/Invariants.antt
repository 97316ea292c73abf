-- The places before the loop's offset are marked.
use Prim.Native.Nat.{◌+◌}
use Rattle.descent.specs.Walks.{Marking}
use Rattle.descent.proofs.Search.mark_word.Given as goal

abbrev pub invariant-loop-offset : goal.invariant-loop-offset
invariant-loop-offset l =
    Marking l.self.table.now l.self.range.first.0 l.self.range.size (l.from.0 + l.offset) l.known l.marked
