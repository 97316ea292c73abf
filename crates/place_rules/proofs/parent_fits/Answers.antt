-- The tests are the definition's.
use borrow.Author.Rules.{rules}
use Rattle.place_rules.proofs.PlaceTests.{parent_so}
use Rattle.place_rules.proofs.parent_fits.Goals as goal

pub returns : goal.returns
returns c = search (parent_so, rules)
