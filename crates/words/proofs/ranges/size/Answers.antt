-- The one bit is not shifted out of a word.
use mathlib.Core.Path.{◌∙◌}
use Prim.Native.Nat.{◌^◌}
use native.Mathlib.Nat.{le_refl, one-mul}
use borrow.Author.Rules.{rules}
use lib.Pow.{shl_exact}
use Rattle.words.proofs.ranges.size.Goals as goal

pub returns : goal.returns
returns c = shl_exact 1 c.args.order 32 (le_refl 2) (search rules) ∙ one-mul (2 ^ c.args.order)
