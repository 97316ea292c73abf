-- The code is the definition.
use native.Mathlib.Omega.{arith}
use Rattle.layout.proofs.Selector.wrapped.Goals as goal

pub returns : goal.returns
returns c = omega arith
