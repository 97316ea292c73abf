-- The space is that of the place that the count makes.
use Rattle.place_rules.proofs.space_of.Goals as goal

pub returns : goal.returns
returns c = rw c.counted.ensures at c.space.ensures
