-- The places of the range before the loop's offset are marked.
use Rattle.marks.specs.PlaceBits.{RangeToo}
use Rattle.marks.proofs.Marks.set_range.Given as goal

abbrev pub invariant-loop-offset : goal.invariant-loop-offset
invariant-loop-offset l = RangeToo l.asked l.initial.self l.range.first.0 l.offset l.self
