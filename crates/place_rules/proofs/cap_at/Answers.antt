-- The place is the one counted to.
use mathlib.Core.Path.{◌∙◌, ap}
use Rattle.interface.specs.Places.{cap_at}
use Rattle.place_rules.proofs.cap_at.Goals as goal

pub returns : goal.returns
returns c = c.load.ensures ∙ ap (cap_at c.args.table.now) c.counted.ensures
