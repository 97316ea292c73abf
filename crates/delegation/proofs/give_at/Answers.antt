-- The places are those of the ranges' offsets.
use Prim.Native.Nat.{◌<◌}
use native.Mathlib.Omega.{arith}
use borrow.Author.Rules.{rules}
use Rattle.words.specs.Sizes.{spaces, selectors}
use Rattle.windows.proofs.WindowLaws.{made_small}
use Rattle.delegation.proofs.DelegateLaws.{given_places}
use Rattle.delegation.proofs.give_at.Goals as goal
use Rattle.delegation.proofs.give_at.Goals.{After-at, After-at-2}

-- the selectors are of the item's space
at_small : (c : After-at) → c.at.result.0 < selectors c.space-space.result
at_small c = rw c.space-space.ensures c.at.ensures.1

into_small : (c : After-at-2) → c.at-2.result.0 < selectors c.space-space.result
into_small c = rw (c.space-space.ensures, c.args.pair.matched.same_space) c.at-2.ensures.1

pub of-source-requires : goal.of-source-requires
of-source-requires c = search (at_small (goal.at.of-source-requires c).After-at, rules)

pub of-destination-requires : goal.of-destination-requires
of-destination-requires c = search (into_small (goal.at.of-destination-requires c).After-at-2, rules)

pub give-requires : goal.give-requires
give-requires c = let small : c.space-space.result < spaces = omega arith in (
  c.requires.0,
  made_small _ _ _ _ c.requires.2 small (into_small (goal.at.give-requires c).After-at-2) c.of-destination.ensures,
  made_small _ _ _ _ c.requires.1 small (at_small (goal.at.give-requires c).After-at) c.of-source.ensures,
)

pub returns : goal.returns
returns c = given_places c.args.from c.args.to c.args.pair.item c.args.pair.window c.args.at c.args.into c.give.ensures
    c.mask.ensures c.of-destination.ensures c.at-2.ensures c.of-source.ensures c.at.ensures c.space-space.ensures
    c.requires.1 c.requires.2 c.args.pair.matched
