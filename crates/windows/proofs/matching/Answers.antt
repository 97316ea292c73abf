-- The item is read, and matched.
use Rattle.windows.proofs.matching.Goals as goal

pub returns : goal.returns
returns c = rw (c.matching.ensures, c.read.ensures)
