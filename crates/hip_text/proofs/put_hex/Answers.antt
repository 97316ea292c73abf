-- So many digits stand after the two bytes of `0x`.
use Prim.Native.Nat.{ℕ, ◌+◌}
use mathlib.Core.Path.{ap, ◌∙◌}
use native.Mathlib.Omega.{arith}
use Rattle.texts.proofs.TextLaws.{length_hexadecimal}
use Rattle.hip_text.specs.PageText.{hex}
use Rattle.hip_text.proofs.put_hex.Goals as goal

pub put_hex-requires : goal.put_hex-requires
put_hex-requires c = omega (arith, c.requires, length_hexadecimal c.args.count c.args.number)

pub returns-clause-wrote : goal.returns-clause-wrote
unfolding hex
returns-clause-wrote c = c.put_hex.ensures

pub returns-clause-value : goal.returns-clause-value
returns-clause-value c = c.put_hex.ensures.ends ∙ ap (λ (k : ℕ). c.args.at + k) (length_hexadecimal c.args.count c.args.number)
