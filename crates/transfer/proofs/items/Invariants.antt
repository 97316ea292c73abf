-- The table, the count and the upper words are those after the items before the loop's.
use Rattle.transfer.proofs.MovedLaws.{Moving}
use Rattle.transfer.proofs.items.Given as goal

abbrev pub invariant-loop-i : goal.invariant-loop-i
invariant-loop-i l =
    Moving l.initial.table l.sender l.receiver l.source l.initial.upper l.typed l.translating l.delegating l.table l.upper l.filled l.i
