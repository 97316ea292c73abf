-- The table shows what the delegations before the loop's offset make of it, and the count is how many of them filled a place.
use mathlib.Core.Path.{sym, ◌∙◌}
use Rattle.delegation.proofs.delegate.Goals.{then-give_at, else-give_at}
use native.Mathlib.Omega.{arith}
use Rattle.descriptor.proofs.DescriptorLaws.{proper_order, proper_end}
use Rattle.delegation.proofs.DelegateLaws.{going_begins, going_filled, going_unfilled, going_ends}
use Rattle.delegation.proofs.delegate.Goals as goal

pub offset-item_offset-requires : goal.offset-item_offset-requires
offset-item_offset-requires c = omega (arith, proper_order c.args.pair.matched.item_proper)

pub offset-window_offset-requires : goal.offset-window_offset-requires
offset-window_offset-requires c = omega (arith, proper_order c.args.pair.matched.window_proper)

pub size-size-requires : goal.size-size-requires
size-size-requires c = omega (arith, proper_order c.args.pair.matched.item_proper)

pub loop-i-init : goal.loop-i-init
loop-i-init c = going_begins c.args.table.now c.args.from c.args.to c.args.hotspot c.args.pair.item c.args.pair.window
    (c.requires.0, c.requires.1, c.requires.2, c.args.pair.matched)
    c.order-item_order.ensures c.order-window_order.ensures c.min-order.ensures c.offset-item_offset.ensures
    c.offset-window_offset.ensures c.size-size.ensures

pub overflow_add-item_offset : goal.overflow_add-item_offset
overflow_add-item_offset c = omega (arith, proper_end c.loop-i.invariant.matched.item_proper)

pub overflow_add-window_offset : goal.overflow_add-window_offset
overflow_add-window_offset c = omega (arith, proper_end c.loop-i.invariant.matched.window_proper)

pub give_at-requires : goal.give_at-requires
give_at-requires c = let g = c.loop-i.invariant in (
  g.running.sized,
  g.from_small,
  g.to_small,
  omega arith,
  omega arith,
)

pub loop-i-preserved : goal.loop-i-preserved
loop-i-preserved c = let g = c.loop-i.invariant in
    let inside = c.loop-i-test.true in
    let given = c.give_at.ensures in
    elim c.if-give_at.branch [
      | then-give_at w ↦ going_filled g inside given w.if-give_at.true w.count-is
      | else-give_at w ↦ going_unfilled g inside given w.if-give_at.false w.count-is
    ]

pub shape_of-table : goal.shape_of-table
shape_of-table c = c.loop-i.invariant.running.sized ∙ sym c.requires.0

pub returns : goal.returns
returns c = going_ends c.loop-i.invariant c.loop-i-test.false
