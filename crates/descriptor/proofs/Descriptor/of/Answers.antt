-- The fields of a proper range are small enough that no part of the sum leaves a word.
use native.Mathlib.Omega.{arith}
use Rattle.descriptor.proofs.DescriptorLaws.{proper_order, proper_end}
use Rattle.descriptor.proofs.Descriptor.of.Goals as goal

pub overflow_add-result : goal.overflow_add-result
overflow_add-result c = omega arith

pub overflow_mul-result : goal.overflow_mul-result
overflow_mul-result c = omega arith

pub overflow_add-result-2 : goal.overflow_add-result-2
overflow_add-result-2 c = omega arith

pub overflow_mul-result-2 : goal.overflow_mul-result-2
overflow_mul-result-2 c = omega (arith, proper_order c.requires)

pub overflow_add-result-3 : goal.overflow_add-result-3
overflow_add-result-3 c = omega (arith, proper_order c.requires)

pub overflow_mul-result-3 : goal.overflow_mul-result-3
overflow_mul-result-3 c = omega (arith, c.number.ensures, proper_end c.requires)

pub overflow_add-result-4 : goal.overflow_add-result-4
overflow_add-result-4 c = omega (arith, c.number.ensures, proper_order c.requires, proper_end c.requires)

pub returns : goal.returns
returns c = omega (arith, c.number.ensures)
