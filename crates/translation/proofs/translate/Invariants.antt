-- The ancestors of the offsets before the search's are in a line inside the window, and the mask has what all of their places permit.
use Rattle.translation.proofs.TranslateLaws.{Searching}
use Rattle.translation.proofs.translate.Given as goal

abbrev pub invariant-loop-i : goal.invariant-loop-i
invariant-loop-i l = Searching l.table l.sender l.receiver l.item l.window l.order l.size l.base.0 l.mask l.i
