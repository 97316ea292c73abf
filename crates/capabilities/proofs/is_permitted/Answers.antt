-- The place's permissions have the bit, and what it names has the kind.
use Rattle.capabilities.proofs.is_permitted.Goals as goal

pub returns : goal.returns
returns c = rw (c.has.ensures, c.load_named.ensures, c.load-cap.ensures)
