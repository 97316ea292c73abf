-- Each place of the range continues it.
use Prim.Native.Nat.{◌+◌}
use mathlib.Core.Path.{refl, sym, ap, ◌∙◌}
use native.Mathlib.Omega.{arith}
use lib.Pow.{pow_pos}
use borrow.Author.Rules.{rules}
use Rattle.interface.specs.Places.{Cap, cap_at}
use Rattle.std.proofs.lemmas.Iterator.{YieldsList-from_range}
use Rattle.std.proofs.lemmas.Iterator.Search.{all_from_yields_List}
use Rattle.lookup.proofs.UniformLaws.{range_holds, Around, continued_at, uniform_is, all_of_range}
use Rattle.lookup.proofs.is_uniform.Goals as goal
use Rattle.lookup.proofs.is_uniform.Goals.{After-size-size, After-load-permissions, After-load-resource}

-- the range that the loop goes through
around : (c : After-load-resource) →
    let given = c.args in
    Around (λ k. cap_at given.places.now (given.first.0 + k)) given.selector given.order c.round_down-low.result c.size-size.result
    c.load-permissions.result.permissions c.load-resource.result.resource
around c =
    record {
      is_low = c.round_down-low.ensures;
      is_size = c.size-size.ensures;
      is_permissions = ap (λ (cap : Cap). cap.permissions) (rw c.after.ensures at c.load-permissions.ensures);
      is_resource_lem = ap (λ (cap : Cap). cap.resource) (rw c.after-2.ensures at c.load-resource.ensures);
    }

-- the selector's place and the range's first place are places
pub after-requires : goal.after-requires
after-requires c = omega (arith, c.requires.2, range_holds c.args.order c.args.selector)

pub load-permissions-requires : goal.load-permissions-requires
load-permissions-requires c = search (after-requires (goal.at.load-permissions-requires c).After-size-size, rules)

pub after-requires-2 : goal.after-requires-2
after-requires-2 c =
    omega (arith, c.requires.2, c.round_down-low.ensures, pow_pos c.args.order)

pub load-resource-requires : goal.load-resource-requires
load-resource-requires c = search (after-requires-2 (goal.at.load-resource-requires c).After-load-permissions, rules)

pub returns : goal.returns
returns c =
    let given = c.args in
    let range = around (goal.at.returns c).After-load-resource in
    let continues = continued_at (λ k. cap_at given.places.now (given.first.0 + k)) c.round_down-low.result c.load-permissions.result.permissions c.load-resource.result.resource in
    all_from_yields_List continues _ _ _ c.all.ensures.ran (YieldsList-from_range 0 c.size-size.result c.size-size.result refl (omega arith)) (λ x b q k. search rules)
    ∙ all_of_range continues c.size-size.result ∙ sym (uniform_is range)
