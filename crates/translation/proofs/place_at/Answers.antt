-- The place is that of the range's offset.
use Prim.Native.Nat.{◌<◌}
use native.Mathlib.Omega.{arith}
use borrow.Author.Rules.{rules}
use Rattle.words.specs.Sizes.{spaces, selectors}
use Rattle.windows.proofs.WindowLaws.{made_small}
use Rattle.translation.proofs.place_at.Goals as goal
use Rattle.translation.proofs.place_at.Goals.{After-at}

-- the selector is of the item's space
at_small : (c : After-at) → c.at.result.0 < selectors c.space.result
at_small c = rw c.space.ensures c.at.ensures.1

pub of-requires : goal.of-requires
of-requires c = search (at_small (goal.at.of-requires c).After-at, rules)

pub returns : goal.returns
returns c = let small : c.space.result < spaces = omega arith in (
  rw (c.space.ensures, c.at.ensures.0) at c.of.ensures,
  made_small _ _ _ _ c.requires.0 small (at_small (goal.at.returns c).After-at) c.of.ensures,
)
