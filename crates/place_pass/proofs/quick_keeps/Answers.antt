-- The ways through the test are the definition's.
use mathlib.Core.Path.{◌∙◌}
use native.Mathlib.Omega.{arith}
use borrow.Author.Rules.{rules}
use Rattle.words.proofs.PlaceLaws.{space_small}
use Rattle.place_rules.proofs.PlaceTests.{equal_same, link_small}
use Rattle.place_pass.proofs.QuickLaws.{quick_null, root_at_home, child_at_home}
use Rattle.place_pass.proofs.quick_keeps.Goals as goal

pub returns-then-cap-eq0 : goal.returns-then-cap-eq0
returns-then-cap-eq0 c =
    let same = c.eq.ensures ∙ equal_same c.cap_at-cap.result c.without_parent.result in search (quick_null, same, rules)

pub returns-in_default : goal.returns-in_default
returns-in_default c = search (root_at_home, rules)

pub parent_fits-requires : goal.parent_fits-requires
parent_fits-requires c = (
  c.requires.0.places_long,
  omega arith,
  omega (arith, c.requires.0.in_space, space_small c.args.place),
  c.requires.1,
  link_small _ _ _ c.linked.ensures c.in-Some.is,
)

pub returns : goal.returns
returns c = search (child_at_home, rules)
