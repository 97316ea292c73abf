-- Nothing is found where nothing is held, and else the largest range around the base.
use mathlib.Core.Bool.{not}
use Prim.Native.Nat.{◌+◌, ◌%◌, ◌≤◌, ◌<◌}
use mathlib.Core.Path.{◌≡◌, refl, sym, ◌∙◌, ap}
use native.Mathlib.Nat.{add-zero}
use native.Mathlib.Omega.{arith}
use lib.Pow.{pow_pos}
use borrow.Author.Rules.{rules}
use borrow.Author.Tests.{not-true, not-false}
use Rattle.words.specs.Sizes.{object, selectors, greatest_order}
use Rattle.words.specs.Sizes.{places as placeCount}
use Rattle.words.specs.Ranges.{rounded}
use Rattle.words.proofs.SizeLaws.{greatest_small}
use Rattle.interface.specs.Places.{Cap, cap_at}
use Rattle.lookup.proofs.AnswerLaws.{Base, nothing_found, base_small, space_ends, around_proper, range_found}
use Rattle.lookup.proofs.found.Goals as goal
use Rattle.lookup.proofs.found.Goals.{After-greatest_order, After-largest_order-order, After-load-cap, After-of-first, After-wrapped-base}

-- the base, and what its place holds
base_of : (c : After-of-first) {cap : Cap} →
    let given = c.args in
    cap ≡ cap_at given.places.now (c.of-first.result.0 + c.number-selector.result) →
    Base given.places.now given.domain given.range c.of-first.result.0 c.number-selector.result cap
base_of c is_cap =
    record {
      proper = c.requires.2;
      is_first = rw (c.space-space.ensures, c.wrapped.ensures, add-zero) at c.of-first.ensures;
      is_selector = c.number-selector.ensures ∙ rw add-zero at c.at.ensures.0;
      is_cap = is_cap;
    }

is_base : (c : After-load-cap) →
    let given = c.args in
    Base given.places.now given.domain given.range c.of-first.result.0 c.number-selector.result c.load-cap.result
is_base c = base_of (goal.at.After-load-cap c).After-of-first (rw c.after.ensures at c.load-cap.ensures)

-- the base's place is a place
base_inside : (c : After-of-first) → c.of-first.result.0 + c.number-selector.result < placeCount
base_inside c =
    let base = base_of c refl in
    omega (arith, base_small base, space_ends base c.requires.1)

-- the greatest order is that of the base's space
greatest_is : (c : After-greatest_order) → c.greatest_order.result ≡ greatest_order c.args.range.space
greatest_is c = rw c.space-space.ensures at c.greatest_order.ensures

-- the lowest selector of the range
low_is : (c : After-wrapped-base) →
    c.wrapped-base.result.0 ≡ rounded c.largest_order-order.result c.number-selector.result % selectors object
low_is c = rw c.round_down.ensures at c.wrapped-base.ensures

order_small : (c : After-largest_order-order) →
    c.largest_order-order.result ≤ greatest_order c.args.range.space
order_small c = rw (greatest_is (goal.at.After-largest_order-order c).After-greatest_order) at c.largest_order-order.ensures.1

pub at-requires : goal.at-requires
at-requires c = (c.requires.2, pow_pos c.args.range.order)

pub of-first-requires : goal.of-first-requires
of-first-requires c =
    let space = c.space-space in
    (c.requires.1, rw space.ensures c.requires.2.space_small, rw c.wrapped.ensures (pow_pos (greatest_order space.result)))

pub after-requires : goal.after-requires
after-requires c = base_inside (goal.at.after-requires c).After-of-first

pub load-cap-requires : goal.load-cap-requires
load-cap-requires c = search (base_inside (goal.at.load-cap-requires c).After-of-first, rules)

pub returns-then-not-is_live : goal.returns-then-not-is_live
returns-then-not-is_live c objects = c.word.ensures ∙
    nothing_found (is_base (goal.at.returns-then-not-is_live c).After-load-cap) (sym c.is_live.ensures ∙ not-true _ (ap not c.if-not-is_live.true)) objects

pub largest_order-order-requires : goal.largest_order-order-requires
largest_order-order-requires c =
    let base = is_base (goal.at.largest_order-order-requires c).After-load-cap in (
      c.requires.0,
      omega (arith, greatest_is (goal.at.largest_order-order-requires c).After-greatest_order, greatest_small c.args.range.space),
      rw (greatest_is (goal.at.largest_order-order-requires c).After-greatest_order) (base_small base),
      rw (greatest_is (goal.at.largest_order-order-requires c).After-greatest_order) (space_ends base c.requires.1),
    )

pub round_down-requires : goal.round_down-requires
round_down-requires c =
    omega (arith, c.largest_order-order.ensures.1, greatest_is (goal.at.round_down-requires c).After-greatest_order, greatest_small c.args.range.space)

pub of-requires : goal.of-requires
of-requires c =
    let mask_small = c.requires.3 _ (base_inside (goal.at.of-requires c).After-of-first) in
    around_proper (is_base (goal.at.of-requires c).After-load-cap) (order_small (goal.at.of-requires c).After-largest_order-order) (low_is (goal.at.of-requires c).After-wrapped-base) c.space-space.ensures (rw (is_base (goal.at.of-requires c).After-load-cap).is_cap mask_small)

pub returns : goal.returns
returns c =
    range_found (is_base (goal.at.returns c).After-load-cap) (order_small (goal.at.returns c).After-largest_order-order) (low_is (goal.at.returns c).After-wrapped-base) (sym c.is_live.ensures ∙ not-false _ (ap not c.if-not-is_live.false))
    (rw (greatest_is (goal.at.returns c).After-greatest_order) at c.largest_order-order.ensures.0) c.space-space.ensures (c.word-2.ensures ∙ c.of.ensures)
