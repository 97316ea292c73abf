-- The parts before a place are among those of its space alone.
use Rattle.place_rules.proofs.PlaceTests.{of_extent}
use Rattle.place_rules.proofs.is_of_space.Goals as goal

pub returns : goal.returns
returns c = of_extent _ _ c.args.extent c.number.ensures c.requires.0 c.requires.1 c.requires.2
