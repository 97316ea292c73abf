-- The arms tell the reading's variant, and a range its space.
use Rattle.creation_rule.proofs.is_initial.Goals as goal

pub returns-in-Good : goal.returns-in-Good
returns-in-Good c = rw (c.space.ensures, c.in-Good.is)
