-- The table, the count and the upper words are those after the items before the loop's.
use mathlib.Core.Path.{sym, ◌∙◌}
use native.Mathlib.Omega.{arith}
use lib.ListN.{length-set}
use Rattle.transfer.proofs.MovedLaws.{moving_begins, moving_on, moving_ends}
use Rattle.transfer.proofs.items.Goals as goal

pub loop-i-init : goal.loop-i-init
loop-i-init c = moving_begins c.args.translating c.args.delegating c.requires.0 c.requires.1 c.requires.2

pub item-outcome-requires : goal.item-outcome-requires
item-outcome-requires c = let g = c.loop-i.invariant in
    (g.sized, g.live_links.linked, g.ready.sender_small, g.ready.receiver_small, g.ready.translating_proper, g.ready.delegating_proper)

pub received_word-requires : goal.received_word-requires
received_word-requires c = c.item-outcome.ensures.proper

pub bounds-upper-top-in-loop-i : goal.bounds-upper-top-in-loop-i
bounds-upper-top-in-loop-i c = simp length-set (omega arith)

pub overflow_add-filled : goal.overflow_add-filled
overflow_add-filled c = omega (arith, c.item-outcome.ensures.few)

pub loop-i-preserved : goal.loop-i-preserved
loop-i-preserved c = moving_on c.loop-i.invariant c.loop-i-test.true c.item-outcome.ensures c.received_word.ensures c.received_second.ensures

pub shape_of-table : goal.shape_of-table
shape_of-table c = c.loop-i.invariant.sized ∙ sym c.requires.0

pub shape_of-upper : goal.shape_of-upper
shape_of-upper c = c.loop-i.invariant.same_length

pub returns : goal.returns
returns c = moving_ends c.loop-i.invariant c.loop-i-test.false
