-- The sum of two words fits a word of twice the width.
use Rattle.lookup.proofs.continues.Goals as goal

pub returns : goal.returns
returns c = rw c.is_live.ensures
