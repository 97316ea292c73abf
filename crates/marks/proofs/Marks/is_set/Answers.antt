-- The bit of the place's number.
use Rattle.marks.specs.PlaceBits.{bit_at}
use Rattle.marks.proofs.Marks.is_set.Goals as goal

pub returns : goal.returns
unfolding bit_at
returns c = rw (c.number-number.ensures, c.self.view_is)
