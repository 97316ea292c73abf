-- The offset is below the size of the range, which ends in its space.
use native.Mathlib.Omega.{arith}
use Rattle.descriptor.proofs.DescriptorLaws.{proper_end}
use Rattle.descriptor.proofs.Range.at.Goals as goal

pub overflow_add-self : goal.overflow_add-self
overflow_add-self c = omega (arith, proper_end c.requires.0)

pub counted-requires : goal.counted-requires
counted-requires c = omega (arith, proper_end c.requires.0)

pub returns : goal.returns
returns c = omega arith
