-- The tests are the definition's.
use Prim.Native.Nat.{◌^◌}
use mathlib.Core.Path.{◌≡◌}
use native.Mathlib.Nat.{add-zero}
use native.Mathlib.Omega.{arith}
use lib.Pow.{pow_pos}
use borrow.Author.Rules.{rules}
use Rattle.descriptor.proofs.DescriptorLaws.{proper_order, proper_end}
use Rattle.translation.specs.Translating.{lies_there}
use Rattle.translation.proofs.lies_there.Goals as goal

pub at-requires : goal.at-requires
at-requires c = (c.requires.2, pow_pos c.args.window.order)

pub size-requires : goal.size-requires
size-requires c = search (proper_order c.requires.2, rules)

pub overflow_add-end : goal.overflow_add-end
overflow_add-end c = let size : c.size.result ≡ 2 ^ c.args.window.order = rw c.order.ensures at c.size.ensures in
    omega (arith, proper_end c.requires.2)

pub returns : goal.returns
unfolding lies_there
returns c = rw (c.is_aligned.ensures, c.size.ensures, c.order.ensures, c.number-start.ensures, c.at.ensures.0, add-zero)
