-- The item is null where no place was filled, and shows the destination otherwise.
use native.Mathlib.Omega.{arith}
use Rattle.transfer.proofs.ItemLaws.{delegated_none, delegated_some}
use Rattle.transfer.proofs.delegate_item.Goals as goal

pub returns-then-filled-eq0 : goal.returns-then-filled-eq0
returns-then-filled-eq0 c = rw c.null_item.ensures
    (delegated_none c.args.sender c.args.receiver c.args.second c.args.pair.item c.args.pair.window c.source_domain.ensures.0
    (omega arith) c.delegate-filled.ensures c.if-filled-eq0.true)

pub returns : goal.returns
returns c = delegated_some c.args.sender c.args.receiver c.args.second c.args.pair.item c.args.pair.window c.source_domain.ensures.0
    (omega arith) c.delegate-filled.ensures c.args.pair.matched c.if-filled-eq0.false c.destination.ensures
