-- The marked places before those that are left are changed, and the others are as they were.
use mathlib.Core.Path.{◌≡◌}
use Rattle.interface.specs.Places.{Cap, cap_table}
use Rattle.places.specs.Table.{Sized}
use Rattle.tree.proofs.MarkedLaws.{left_below}
use Rattle.tree.proofs.change_marked.Given as goal

abbrev pub invariant-loop-place : goal.invariant-loop-place
invariant-loop-place g l = record {
  sized : Sized l.table;
  same_marks : l.place-iterator.marks.now ≡ l.marked;
  changed : (h : Cap → Cap) → ((cap left : Cap) → goal.F-post g l.change cap left → left ≡ h cap) →
      l.table ≡ cap_table (left_below l.initial.table l.marked h l.place-iterator.from);
}
