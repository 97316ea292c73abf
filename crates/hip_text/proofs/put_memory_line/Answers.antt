-- An empty line and the heads stand above the rows.
use Prim.Native.Nat.{◌-◌}
use native.Mathlib.Omega.{arith}
use Rattle.endian.specs.Runs.{spaced}
use Rattle.hip_format.specs.Reader.{memory_at}
use Rattle.hip_text.specs.PageText.{no_memory, memory_heads, rows_from, memory_row, memory_lines}
use Rattle.hip_text.proofs.LineLaws.{rows_counted, line_row, type_at}
use Rattle.hip_text.proofs.put_memory_line.Goals as goal

pub returns-then-index-lt-ABOVE_ROWS : goal.returns-then-index-lt-ABOVE_ROWS
unfolding memory_lines
returns-then-index-lt-ABOVE_ROWS c = let what = memory_at c.args.bytes.now in
    c.put_above.ensures (rows_from memory_row 0 (spaced what c.args.start 24 c.args.count)) (rows_counted memory_row what c.args.start 24 c.args.count no_memory memory_heads)

pub put_memory-requires-clause-kind_value : goal.put_memory-requires-clause-kind_value
put_memory-requires-clause-kind_value c = let allowed = type_at (memory_at c.args.bytes.now) 24 c.args.count c.args.start (c.args.index - 2) (omega arith) c.requires.count_value in
    rw c.memory_at-memory.ensures allowed

pub returns : goal.returns
unfolding memory_lines
returns c = line_row memory_row (memory_at c.args.bytes.now) c.args.start 24 c.args.count no_memory memory_heads c.args.index (c.args.index - 2) (omega arith) (omega arith)
    (rw c.memory_at-memory.ensures at c.put_memory.ensures)
