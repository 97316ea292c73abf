-- The five columns and the line end follow one another; together they are shorter than the longest line.
use native.Mathlib.Omega.{arith}
use Rattle.hip_text.proofs.LineLaws.{wrote_cpu}
use Rattle.hip_text.proofs.put_cpu.Goals as goal

pub put-requires : goal.put-requires
put-requires c = omega (
  arith,
  c.requires.line_bytes_in_bounds,
  c.put_column-end.ensures.value,
  c.put_column-end.auto.out,
  c.put_column-flags_at.ensures.value,
  c.put_column-flags_at.auto.out,
  c.put_column-thread_at.ensures.value,
  c.put_column-thread_at.auto.out,
  c.put_column-core_at.ensures.value,
  c.put_column-core_at.auto.out,
  c.put_column-package_at.ensures.value,
  c.put_column-package_at.auto.out,
)

pub shape_of-out : goal.shape_of-out
shape_of-out c = omega (arith, c.put.auto.out, c.put_column-end.auto.out, c.put_column-flags_at.auto.out, c.put_column-thread_at.auto.out, c.put_column-core_at.auto.out, c.put_column-package_at.auto.out)

pub returns : goal.returns
returns c = wrote_cpu (omega (arith, c.requires.line_bytes_in_bounds)) c.args.index c.args.cpu c.put_column-package_at.ensures.wrote c.put_column-core_at.ensures.wrote c.put_column-thread_at.ensures.wrote c.put_column-flags_at.ensures.wrote
    c.put_column-end.ensures.wrote c.put.ensures
