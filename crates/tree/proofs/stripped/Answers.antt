-- What is left is what stripping leaves.
use mathlib.Core.Path.{◌∙◌}
use Rattle.tree.proofs.StripLaws.{strips_all, strips_some}
use Rattle.tree.proofs.stripped.Goals as goal

pub returns-then-left-eq0 : goal.returns-then-left-eq0
returns-then-left-eq0 c = c.without_parent.ensures ∙ strips_all _ _ c.remove-left.ensures c.if-left-eq0.true

pub returns : goal.returns
returns c = strips_some _ _ c.remove-left.ensures c.if-left-eq0.false
