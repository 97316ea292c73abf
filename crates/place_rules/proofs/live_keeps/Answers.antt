-- The tests are the definition's, and a number that is no resource's allows no permission.
use native.Mathlib.Omega.{arith}
use borrow.Author.Rules.{rules}
use Rattle.words.proofs.PlaceLaws.{space_small}
use Rattle.place_rules.proofs.PlaceTests.{live_out, live_lineage}
use Rattle.place_rules.proofs.live_keeps.Goals as goal

pub greatest_allowed-requires : goal.greatest_allowed-requires
greatest_allowed-requires c = (c.requires.0.objects_long, omega (arith, c.requires.0.in_space, space_small c.args.place))

pub returns-else-home-cap : goal.returns-else-home-cap
returns-else-home-cap c = search (live_out, rules)

pub returns-then-home-cap : goal.returns-then-home-cap
returns-then-home-cap c = search (live_lineage, rules)
