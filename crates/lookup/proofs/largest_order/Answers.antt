-- No range of an order above the loop's is uniform.
use Prim.Native.Nat.{◌+◌}
use mathlib.Core.Path.{refl, sym, ◌∙◌}
use native.Mathlib.Omega.{arith}
use Rattle.interface.specs.Places.{cap_at}
use Rattle.lookup.proofs.UniformLaws.{around_ends, largest_here, largest_below, largest_least}
use Rattle.lookup.proofs.largest_order.Goals as goal

pub loop-order-init : goal.loop-order-init
loop-order-init c = (omega arith, refl)

pub is_uniform-requires : goal.is_uniform-requires
is_uniform-requires c =
    let given = c.args in
    let ends = around_ends given.greatest c.loop-order.order given.selector c.loop-order.invariant.0 c.requires.2 in
    (c.requires.0, omega (arith, c.requires.1, c.loop-order.invariant.0), omega (arith, c.requires.3, ends))

pub returns-then-is_uniform : goal.returns-then-is_uniform
returns-then-is_uniform c =
    let given = c.args in
    let is_uniform = sym c.is_uniform.ensures ∙ c.if-is_uniform.true in
    let here = largest_here (λ k. cap_at given.places.now (given.first.0 + k)) given.selector _ (omega arith) is_uniform in
    (sym (c.loop-order.invariant.1 ∙ here), omega arith)

pub loop-order-preserved : goal.loop-order-preserved
loop-order-preserved c =
    let given = c.args in
    let is_not = sym c.is_uniform.ensures ∙ c.if-is_uniform.false in
    let below = largest_below (λ k. cap_at given.places.now (given.first.0 + k)) given.selector _ (omega arith) is_not in
    (omega arith, c.loop-order.invariant.1 ∙ below)

pub returns : goal.returns
returns c =
    let given = c.args in
    (sym (c.loop-order.invariant.1 ∙ largest_least (λ k. cap_at given.places.now (given.first.0 + k)) given.selector _ (omega arith)), omega arith)
