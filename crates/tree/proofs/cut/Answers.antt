-- The descendants are marked, and the range too if asked, before any place is stripped.
use Rattle.std.proofs.Common.{rules}
use Rattle.interface.specs.Effects.{stripped}
use Rattle.tree.specs.Changing.{changed_where}
use Rattle.tree.specs.Stripping.{stripped_where}
use Rattle.tree.proofs.StripLaws.{left_cut}
use Rattle.tree.proofs.cut.Goals as goal

pub mark_below-requires : goal.mark_below-requires
mark_below-requires c =
    (c.requires.0, c.requires.1, c.requires.2, c.blank-marked.ensures)

pub returns : goal.returns
unfolding stripped_where changed_where
returns c =
    left_cut _ _ _ _ c.args.self_too c.mark_below.ensures c.set_range.ensures (c.change_marked.ensures (stripped c.args.mask) (λ cap left k. search rules))
