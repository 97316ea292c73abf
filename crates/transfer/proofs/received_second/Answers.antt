-- A reason's number is at most 5.
use native.Mathlib.Omega.{arith}
use Rattle.descriptor.proofs.DescriptorLaws.{why_most}
use Rattle.transfer.proofs.received_second.Goals as goal

pub overflow_mul-result : goal.overflow_mul-result
overflow_mul-result c = omega (arith, c.why_null.ensures, why_most c.args.received)

pub overflow_add-result : goal.overflow_add-result
overflow_add-result c = omega (arith, c.why_null.ensures, why_most c.args.received)
