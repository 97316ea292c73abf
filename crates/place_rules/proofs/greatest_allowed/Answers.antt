-- A number past the resources of a space allows nothing.
use borrow.Author.Rules.{rules}
use Rattle.place_rules.proofs.PlaceTests.{allowed_object, no_object, allowed_page, no_page}
use Rattle.place_rules.proofs.greatest_allowed.Goals as goal

pub returns-then-resource-ge-RECORDS : goal.returns-then-resource-ge-RECORDS
returns-then-resource-ge-RECORDS c = search (no_object, rules)

pub returns-then-space-eq-OBJECT : goal.returns-then-space-eq-OBJECT
returns-then-space-eq-OBJECT c = search (allowed_object, rules)

pub returns-then-resource-ge-PAGE_SELECTORS : goal.returns-then-resource-ge-PAGE_SELECTORS
returns-then-resource-ge-PAGE_SELECTORS c = search (no_page, rules)

pub returns : goal.returns
returns c = search (allowed_page, rules)
