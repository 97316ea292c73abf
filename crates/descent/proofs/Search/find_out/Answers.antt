-- A place that is known has its mark. Of any other the walk tells, and what it found is stored.
use mathlib.Core.Path.{◌∙◌}
use Rattle.descent.proofs.MarkLaws.{told_known}
use Rattle.descent.proofs.Search.find_out.Goals as goal

pub is_set-requires : goal.is_set-requires
is_set-requires c =
    c.requires.1

pub is_set-requires-then-is_set : goal.is_set-requires-then-is_set
is_set-requires-then-is_set c =
    c.requires.1

pub returns-then-is_set : goal.returns-then-is_set
returns-then-is_set c =
    (c.requires.0, c.is_set-then-is_set.ensures ∙ told_known c.requires.0 _ c.requires.2 c.is_set.ensures c.if-is_set.true)

pub walk_below-found-requires : goal.walk_below-found-requires
walk_below-found-requires c =
    (c.requires.0, c.requires.1)

pub settle-requires : goal.settle-requires
settle-requires c =
    (c.requires.0, c.requires.1, c.walk_below-found.ensures)

pub returns : goal.returns
returns c =
    (c.settle.ensures, c.walk_below-found.ensures)
