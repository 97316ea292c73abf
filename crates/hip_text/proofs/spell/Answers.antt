-- The buffer has the lines that the loop has passed. The measure is how many lines are left.
use mathlib.Core.Path.{refl}
use native.Mathlib.Omega.{arith}
use Rattle.hip_text.specs.PageText.{page_lines}
use Rattle.hip_text.proofs.LineLaws.{far_none, far_more, far_spelled}
use Rattle.hip_text.proofs.spell.Goals as goal

pub line_count-lines-requires : goal.line_count-lines-requires
line_count-lines-requires c = c.read-read_as.ensures

pub loop-next-init : goal.loop-next-init
loop-next-init c = (refl, omega arith, far_none _ _ _)

pub overflow_sub-out : goal.overflow_sub-out
overflow_sub-out c = omega arith

pub put_line-count-requires-clause-read_as_value : goal.put_line-count-requires-clause-read_as_value
put_line-count-requires-clause-read_as_value c = c.read-read_as.ensures

pub put_line-count-requires-clause-index_bound : goal.put_line-count-requires-clause-index_bound
put_line-count-requires-clause-index_bound c = omega (arith, c.line_count-lines.ensures.value_2, c.loop-next-test)

pub put_line-count-requires-clause-line_bytes_in_bounds : goal.put_line-count-requires-clause-line_bytes_in_bounds
put_line-count-requires-clause-line_bytes_in_bounds c = let turn = c.loop-next in
    omega (arith, c.if-out-count-ge-LINE_BYTES.true, turn.invariant.1)

pub overflow_add-next : goal.overflow_add-next
overflow_add-next c = omega arith

pub loop-next-smaller : goal.loop-next-smaller
loop-next-smaller c = omega arith

pub loop-next-preserved : goal.loop-next-preserved
loop-next-preserved c = let turn = c.loop-next in (
  omega arith,
  c.put_line-count.ensures.fits,
  far_more (page_lines c.args.bytes.now) c.args.from turn.next turn.count _ c.args.out.now turn.out _ (omega (arith, c.line_count-lines.ensures.value)) turn.invariant.2
      c.put_line-count.ensures,
)

pub shape_of-out-else-out-count-ge-LINE_BYTES : goal.shape_of-out-else-out-count-ge-LINE_BYTES
shape_of-out-else-out-count-ge-LINE_BYTES c = omega arith

pub returns-else-out-count-ge-LINE_BYTES : goal.returns-else-out-count-ge-LINE_BYTES
returns-else-out-count-ge-LINE_BYTES c = let turn = c.loop-next in
    far_spelled (page_lines c.args.bytes.now) c.args.from turn.next turn.count _ c.args.out.now turn.out turn.invariant.2 c.line_count-lines.ensures.value
    (λ l. omega (arith, c.if-out-count-ge-LINE_BYTES.false, turn.invariant.0, turn.invariant.1))

pub shape_of-out-after-loop-next : goal.shape_of-out-after-loop-next
shape_of-out-after-loop-next c = omega arith

pub returns-after-loop-next : goal.returns-after-loop-next
returns-after-loop-next c = let turn = c.loop-next in
    far_spelled (page_lines c.args.bytes.now) c.args.from turn.next turn.count _ c.args.out.now turn.out turn.invariant.2 c.line_count-lines.ensures.value
    (λ l. omega (arith, c.line_count-lines.ensures.value))
