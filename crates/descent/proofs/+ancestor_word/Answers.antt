-- A walk ends at a place without a parent, and goes on from a parent, whose depth is one less.
use Rattle.std.specs.Prelude.{Option}
use mathlib.Core.Path.{◌≡◌, ap, ◌∙◌}
use Rattle.layout.specs.declared.Place.{Place}
use Rattle.layout.specs.Numbers.{linked}
use Rattle.interface.specs.Places.{Cap}
use Rattle.descent.proofs.WalkLaws.{parent_small, walk_shorter, walk_ends, walk_finds, walk_passes}
use Rattle.descent.proofs.+ancestor_word.Goals as goal

-- the place that the parent word of what is held leads to
leads : {cap held : Cap} {found : Option Place} → found ≡ linked cap.parent → cap ≡ held → found ≡ linked held.parent
leads is_found is_cap = is_found ∙ ap (λ (cap : Cap). linked cap.parent) is_cap

pub load-cap-requires : goal.load-cap-requires
load-cap-requires t c = (c.requires.0, c.requires.2)

pub returns-in_default : goal.returns-in_default
returns-in_default t c =
    walk_ends c.requires.1 c.requires.2 (leads c.linked.ensures c.load-cap.ensures) _ _ c.in_default.is

pub returns-then-contains : goal.returns-then-contains
returns-then-contains t c =
    ap (λ (cap : Cap). cap.parent) c.load-cap.ensures
    ∙ walk_finds c.requires.1 c.requires.2 (leads c.linked.ensures c.load-cap.ensures) c.in-Some.is _ _ c.contains.ensures c.if-contains.true

pub ancestor_word-requires : goal.ancestor_word-requires
ancestor_word-requires t c =
    let links = c.requires.1 in
    let up = leads c.linked.ensures c.load-cap.ensures in (
      walk_shorter links c.requires.2 up c.in-Some.is t c.decreases,
      (c.requires.0, links, parent_small links c.requires.2 up c.in-Some.is),
    )

pub returns : goal.returns
returns t c =
    walk_passes c.requires.1 c.requires.2 (leads c.linked.ensures c.load-cap.ensures) c.in-Some.is _ _ c.contains.ensures c.if-contains.false
    c.ancestor_word.ensures
