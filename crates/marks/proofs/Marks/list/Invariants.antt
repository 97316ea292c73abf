-- The list begins with the marked places before those that are left.
use mathlib.Core.Path.{◌≡◌}
use Rattle.std.specs.Iterator.Adapters.{enumerate_source, enumerate_count}
use Rattle.marks.proofs.MarkedLaws.{Filled}
use Rattle.marks.proofs.Marks.list.Given as goal

abbrev pub invariant-loop-count : goal.invariant-loop-count
invariant-loop-count l = record {
  callable : (goal.iterator-loop-count).can_next l.count-iterator;
  ends : (goal.iterator-loop-count).is_finite l.count-iterator;
  same_marks : (enumerate_source l.count-iterator).marks.now ≡ l.self;
  filled : Filled l.self (enumerate_source l.count-iterator).from (enumerate_count l.count-iterator) l.initial.list l.list;
}
