-- An empty line and the heads stand above the rows.
use Prim.Native.Nat.{◌-◌}
use native.Mathlib.Omega.{arith}
use Rattle.endian.specs.Runs.{spaced}
use Rattle.hip_format.specs.Reader.{cpu_at}
use Rattle.hip_text.specs.PageText.{no_cpu, cpu_heads, rows_from, cpu_row, cpu_lines}
use Rattle.hip_text.proofs.LineLaws.{rows_counted, line_row}
use Rattle.hip_text.proofs.put_cpu_line.Goals as goal

pub returns-then-index-lt-ABOVE_ROWS : goal.returns-then-index-lt-ABOVE_ROWS
unfolding cpu_lines
returns-then-index-lt-ABOVE_ROWS c = let what = cpu_at c.args.bytes.now in
    c.put_above.ensures (rows_from cpu_row 0 (spaced what 56 4 c.args.count)) (rows_counted cpu_row what 56 4 c.args.count no_cpu cpu_heads)

pub returns : goal.returns
unfolding cpu_lines
returns c = line_row cpu_row (cpu_at c.args.bytes.now) 56 4 c.args.count no_cpu cpu_heads c.args.index (c.args.index - 2) (omega arith) (omega arith)
    (rw c.cpu_at-cpu.ensures at c.put_cpu.ensures)
