-- The tests are the definition's, and domain 0 is the first stride of places.
use mathlib.Core.Path.{◌∙◌}
use native.Mathlib.Omega.{arith}
use borrow.Author.Rules.{rules}
use Rattle.words.proofs.PlaceLaws.{space_small}
use Rattle.interface.specs.Places.{places_in}
use Rattle.place_rules.proofs.PlaceTests.{extent_space, extent_own, link_small, lineage_none, lineage_parent, lineage_nowhere}
use Rattle.place_rules.proofs.lineage_keeps.Goals as goal

pub returns-then-cap-eq0 : goal.returns-then-cap-eq0
returns-then-cap-eq0 c = search (lineage_none, rules)

pub returns-in_default : goal.returns-in_default
returns-in_default c = search (lineage_nowhere, rules)

pub extent_of-requires : goal.extent_of-requires
extent_of-requires c = omega (arith, c.requires.1, space_small c.args.place)

pub parent_fits-requires : goal.parent_fits-requires
parent_fits-requires c = (
  c.requires.0,
  c.requires.3,
  rw (extent_space _ _ c.extent_of.ensures) (omega (arith, c.requires.1, space_small c.args.place)),
  extent_own _ _ c.extent_of.ensures,
  link_small _ _ _ c.linked.ensures c.in-Some.is,
)

pub returns : goal.returns
returns c =
    lineage_parent (places_in c.args.table.now) c.args.place c.args.cap c.requires.2 _ _ _ _ c.if-cap-eq0.false
    (extent_space _ _ c.extent_of.ensures ∙ c.requires.1) c.linked.ensures c.in-Some.is c.parent_fits.ensures
