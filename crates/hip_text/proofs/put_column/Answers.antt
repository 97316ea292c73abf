-- A number that its column has room for fills the column.
use Prim.Native.Nat.{ℕ, ◌+◌}
use mathlib.Core.Path.{ap, ◌∙◌}
use native.Mathlib.Omega.{arith}
use Rattle.hip_text.specs.PageText.{column}
use Rattle.hip_text.proofs.LineLaws.{length_column}
use Rattle.hip_text.proofs.put_column.Goals as goal

pub put_right-requires : goal.put_right-requires
put_right-requires c = omega (arith, c.requires.width_in_bounds, length_column c.args.width c.args.number c.requires.width_nonzero c.requires.number_bound)

pub returns-clause-wrote : goal.returns-clause-wrote
unfolding column
returns-clause-wrote c = c.put_right.ensures

pub returns-clause-value : goal.returns-clause-value
returns-clause-value c = c.put_right.ensures.ends ∙ ap (λ (k : ℕ). c.args.at + k) (length_column c.args.width c.args.number c.requires.width_nonzero c.requires.number_bound)
