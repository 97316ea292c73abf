-- A group whose first place has a permission is not blank.
use mathlib.Core.Path.{◌∙◌}
use borrow.Author.Tests.{ne_eqb}
use Rattle.place_pass.proofs.QuickLaws.{live_not_blank}
use Rattle.place_pass.proofs.group_is_blank.Goals as goal

pub returns-else-cap_at-eq0 : goal.returns-else-cap_at-eq0
returns-else-cap_at-eq0 c = ne_eqb _ 0 c.if-cap_at-eq0.false ∙ live_not_blank _ _ _ c.cap_at.ensures c.if-cap_at-eq0.false
