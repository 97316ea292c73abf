-- The tests are the definition's, and base and size are both far below the greatest word.
use Prim.Native.Nat.{◌≤◌}
use native.Mathlib.Omega.{arith}
use lib.Pow.{pow_mono}
use Rattle.descriptor.specs.Descriptors.{well_formed}
use Rattle.descriptor.proofs.is_range.Goals as goal

pub overflow_add-result : goal.overflow_add-result
overflow_add-result c = let small : c.args.order ≤ 31 = omega arith in omega (arith, pow_mono small)

pub returns : goal.returns
unfolding well_formed
returns c = rw (c.greatest_order.ensures, c.is_aligned.ensures, c.size.ensures, c.selectors.ensures)
