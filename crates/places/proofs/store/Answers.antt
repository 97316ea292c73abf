-- The four words of a place lie below the table's length, and storing them puts the capability.
use native.Mathlib.Omega.{arith}
use lib.ListN.{length-set}
use Rattle.places.proofs.CapTableLaws.{stored}
use Rattle.places.proofs.store.Goals as goal

pub offset_bounds-table-at : goal.offset_bounds-table-at
offset_bounds-table-at c = omega arith

pub bounds-table-at : goal.bounds-table-at
bounds-table-at c = omega arith

pub overflow_add-table : goal.overflow_add-table
overflow_add-table c = omega arith

pub offset_bounds-table-at-2 : goal.offset_bounds-table-at-2
offset_bounds-table-at-2 c = omega arith

pub bounds-table-at-2 : goal.bounds-table-at-2
bounds-table-at-2 c = simp length-set (omega arith)

pub overflow_add-table-2 : goal.overflow_add-table-2
overflow_add-table-2 c = omega arith

pub offset_bounds-table-at-3 : goal.offset_bounds-table-at-3
offset_bounds-table-at-3 c = omega arith

pub bounds-table-at-3 : goal.bounds-table-at-3
bounds-table-at-3 c = simp length-set (omega arith)

pub overflow_add-table-3 : goal.overflow_add-table-3
overflow_add-table-3 c = omega arith

pub offset_bounds-table-at-4 : goal.offset_bounds-table-at-4
offset_bounds-table-at-4 c = omega arith

pub bounds-table-at-4 : goal.bounds-table-at-4
bounds-table-at-4 c = simp length-set (omega arith)

pub shape_of-table : goal.shape_of-table
shape_of-table c = simp length-set

pub returns : goal.returns
returns c = stored _ _ _ _ c.words_start-at.ensures c.requires.0 c.requires.1
