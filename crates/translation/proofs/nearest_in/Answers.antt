-- The nearest ancestor in a domain is the first among the domain's places.
use mathlib.Core.Path.{sym, ap, ◌∙◌}
use Rattle.layout.specs.Numbers.{linked}
use Rattle.interface.specs.Places.{cap_at}
use Rattle.descent.proofs.LinkLaws.{nearest_first_among}
use Rattle.translation.proofs.nearest_in.Goals as goal

pub returns : goal.returns
returns c =
    rw c.first_of.ensures at c.ancestor.ensures ∙ ap linked (sym (nearest_first_among (cap_at c.args.table.now) c.args.domain c.args.place.0))
