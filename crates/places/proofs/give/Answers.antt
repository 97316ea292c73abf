-- The test is the definition's, the capability stored is what delegation hands on, and a table without a store is the table of what it shows.
use mathlib.Core.Bool.{not}
use mathlib.Core.Path.{ap}
use borrow.Author.Rules.{rules}
use Rattle.places.proofs.GivenLaws.{next_depth_fits, given_none, given_one}
use Rattle.places.proofs.give.Goals as goal

pub returns-then-not-is_live-from : goal.returns-then-not-is_live-from
returns-then-not-is_live-from c =
    given_none c.load-from.ensures c.load-to.ensures c.keep-left.ensures c.is_live.ensures c.is_live-2.ensures
    c.requires.0 (ap not c.if-not-is_live-from.true)

pub overflow_add-from : goal.overflow_add-from
overflow_add-from c = search (next_depth_fits, rules)

pub returns : goal.returns
returns c =
    given_one c.load-from.ensures c.load-to.ensures c.keep-left.ensures c.is_live.ensures
    c.is_live-2.ensures c.link.ensures (ap not c.if-not-is_live-from.false) c.store.ensures
