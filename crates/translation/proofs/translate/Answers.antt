-- The ancestors of the offsets before the search's are in a line inside the window, and the mask has what all of their places permit.
use mathlib.Core.Bool.{not}
use mathlib.Core.Path.{◌≡◌, ap}
use native.Mathlib.Omega.{arith}
use lib.Pow.{pow_pos}
use Rattle.descriptor.proofs.DescriptorLaws.{proper_order, proper_end}
use Rattle.translation.proofs.TranslateLaws.{search_begins, search_none, next_small, search_elsewhere, search_on, search_shows}
use Rattle.translation.proofs.translate.Goals as goal
use Rattle.translation.proofs.translate.Goals.{else-loop-i-test, then-loop-i-test+in_default, then-loop-i-test+in-Some+then-not-lies_there}

pub size-size-requires : goal.size-size-requires
size-size-requires c = omega (arith, proper_order c.requires.4.item_proper)

pub at-base-requires : goal.at-base-requires
at-base-requires c = (c.requires.4.item_proper, pow_pos c.args.item.order)

pub loop-i-init : goal.loop-i-init
loop-i-init c = search_begins c.requires c.order-order.ensures c.size-size.ensures c.at-base.ensures c.mask-mask.ensures

pub place_at-place-requires : goal.place_at-place-requires
place_at-place-requires c = let s = c.loop-i.invariant in
    (s.sender_small, s.matched.item_proper, rw s.is_size at c.loop-i-test.true)

pub nearest_in-requires : goal.nearest_in-requires
nearest_in-requires c = let s = c.loop-i.invariant in
    (s.sized, s.linked, omega arith, c.place_at-place.ensures.1)

pub lies_there-requires : goal.lies_there-requires
lies_there-requires c = let s = c.loop-i.invariant in
    let small =
    next_small s c.loop-i-test.true c.place_at-place.ensures.0 c.nearest_in.ensures
    c.in-Some.is c.selector-selector.ensures c.base_of-base.ensures in
    (omega (arith, proper_order s.matched.item_proper), omega (arith, c.number-in-loop-i.ensures, proper_end s.matched.item_proper), s.matched.window_proper)

pub load-cap-requires : goal.load-cap-requires
load-cap-requires c = (c.loop-i.invariant.sized, c.place_at-place.ensures.1)

pub loop-i-preserved : goal.loop-i-preserved
loop-i-preserved c = let s = c.loop-i.invariant in
    search_on s c.loop-i-test.true c.place_at-place.ensures.0 c.nearest_in.ensures
    c.in-Some.is c.selector-selector.ensures c.base_of-base.ensures
    c.number.ensures c.number-in-loop-i.ensures c.lies_there.ensures
    (ap not c.if-not-lies_there.false) c.load-cap.ensures c.keep-mask.ensures

pub returns : goal.returns
returns c =
    elim c.loop-i-test.branch [
      | else-loop-i-test w ↦ rw (c.ok_or.ensures.value, w.shown-is) (search_shows c.loop-i.invariant w.loop-i-test.false w.space.ensures w.of.ensures)
      | then-loop-i-test+in_default w ↦
          rw (c.ok_or.ensures.value, w.shown-is)
          (search_none c.loop-i.invariant w.loop-i-test.true w.place_at-place.ensures.0 w.nearest_in.ensures w.in_default.is)
      | then-loop-i-test+in-Some+then-not-lies_there w ↦
          rw (c.ok_or.ensures.value, w.shown-is)
          (search_elsewhere c.loop-i.invariant w.loop-i-test.true w.place_at-place.ensures.0 w.nearest_in.ensures w.in-Some.is
          w.selector-selector.ensures w.base_of-base.ensures w.number.ensures w.number-in-loop-i.ensures w.lies_there.ensures
          (ap not w.if-not-lies_there.true))
    ]
