-- A place without a parent is below none; of any other the parent tells.
use mathlib.Core.Path.{sym, ◌∙◌}
use borrow.Author.Tests.{ltb-false}
use Rattle.descent.proofs.MarkLaws.{told_before}
use Rattle.descent.proofs.WalkLaws.{comes_before, parent_small, rootless_below, below_inside, below_outside}
use Rattle.descent.proofs.Search.descends.Goals as goal

pub parent-requires : goal.parent-requires
parent-requires c =
    (c.args.self.now.sized, c.requires.1)

pub returns-in_default : goal.returns-in_default
returns-in_default c =
    (c.requires.0, rootless_below c.args.self.now.links c.requires.1 c.parent.ensures _ _ c.in_default.is)

pub returns-then-contains : goal.returns-then-contains
returns-then-contains c =
    (c.requires.0, below_inside c.args.self.now.links c.requires.1 c.parent.ensures c.in-Some.is _ _ c.contains.ensures c.if-contains.true)

pub is_set-requires : goal.is_set-requires
is_set-requires c =
    parent_small c.args.self.now.links c.requires.1 c.parent.ensures c.in-Some.is

pub returns-then-lt : goal.returns-then-lt
returns-then-lt c = (
  c.requires.0,
  c.is_set.ensures ∙ told_before c.requires.0 _ (c.lt.ensures ∙ comes_before _ _) c.if-lt.true ∙
      below_outside c.args.self.now.links c.requires.1 c.parent.ensures c.in-Some.is _ _ c.contains.ensures c.if-contains.false,
)

pub find_out-requires : goal.find_out-requires
find_out-requires c = (
  c.requires.0,
  parent_small c.args.self.now.links c.requires.1 c.parent.ensures c.in-Some.is,
  ltb-false _ _ (sym (c.lt.ensures ∙ comes_before _ _) ∙ c.if-lt.false),
)

pub returns : goal.returns
returns c = (
  c.find_out.ensures.0,
  c.find_out.ensures.1 ∙
      below_outside c.args.self.now.links c.requires.1 c.parent.ensures c.in-Some.is _ _ c.contains.ensures c.if-contains.false,
)
