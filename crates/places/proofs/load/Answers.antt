-- The four words of a place lie below the table's length, and are what it shows.
use native.Mathlib.Omega.{arith}
use Rattle.places.proofs.CapTableLaws.{loaded}
use Rattle.places.proofs.load.Goals as goal

pub overflow_add-result : goal.overflow_add-result
overflow_add-result c = omega arith

pub offset_bounds-table-at-2 : goal.offset_bounds-table-at-2
offset_bounds-table-at-2 c = omega arith

pub bounds-table-at-2 : goal.bounds-table-at-2
bounds-table-at-2 c = omega arith

pub overflow_add-result-2 : goal.overflow_add-result-2
overflow_add-result-2 c = omega arith

pub offset_bounds-table-at-3 : goal.offset_bounds-table-at-3
offset_bounds-table-at-3 c = omega arith

pub bounds-table-at-3 : goal.bounds-table-at-3
bounds-table-at-3 c = omega arith

pub overflow_add-result-3 : goal.overflow_add-result-3
overflow_add-result-3 c = omega arith

pub offset_bounds-table-at-4 : goal.offset_bounds-table-at-4
offset_bounds-table-at-4 c = omega arith

pub bounds-table-at-4 : goal.bounds-table-at-4
bounds-table-at-4 c = omega arith

pub returns : goal.returns
returns c = loaded _ _ _ c.words_start-at.ensures
