-- The window's part is that of the smaller order around the hotspot.
use Prim.Native.Nat.{◌+◌, ◌^◌, ◌≤◌}
use native.Mathlib.Omega.{arith}
use lib.Pow.{pow_pos}
use borrow.Author.Rules.{rules}
use Rattle.descriptor.proofs.DescriptorLaws.{proper_order}
use Rattle.windows.proofs.WindowLaws.{is_destination}
use Rattle.windows.proofs.destination.Goals as goal

pub offset-requires : goal.offset-requires
offset-requires c = search (proper_order c.args.pair.matched.window_proper, rules)

pub at-base-requires : goal.at-base-requires
at-base-requires c = let ends : c.offset.result + 2 ^ c.min-order.result ≤ 2 ^ c.args.pair.window.order = rw c.order-window_order.ensures at c.offset.ensures.1 in
    (c.args.pair.matched.window_proper, omega (arith, pow_pos c.min-order.result))

pub returns : goal.returns
returns c = is_destination c.args.hotspot c.args.pair.item c.args.pair.window c.order.ensures c.order-window_order.ensures
    c.min-order.ensures c.offset.ensures c.at-base.ensures c.space.ensures c.mask.ensures
    c.of.ensures
