-- The census of damaged tables is refused, and that of sound ones is the tree's.
use mathlib.Core.Path.{ap, ◌≡◌, sym, ◌∙◌}
use mathlib.Core.Bool.{true, not}
use borrow.Author.Tests.{not-true, not-false}
use Rattle.interface.specs.Places.{tables}
use Rattle.interface.specs.Damage.{sound}
use Rattle.kernel.proofs.FaceLaws.{showing_heirs, census_refused, census_counted, census_lengths, census_links}
use Rattle.kernel.proofs.census.Goals as goal
use Rattle.kernel.proofs.census.Goals.{Else-not-is_sound}

-- the tables are sound
undamaged : (c : Else-not-is_sound) →
    let given = c.args in
    sound (tables given.places.now given.objects.now) ≡ true
undamaged c = sym c.is_sound.ensures ∙ not-false _ (ap not c.if-not-is_sound.false)

pub returns-then-not-is_sound : goal.returns-then-not-is_sound
returns-then-not-is_sound c =
    let refused = census_refused _ _ _ _ (sym c.is_sound.ensures ∙ not-true _ (ap not c.if-not-is_sound.true)) in
    record { is_census = refused; shows_heirs = (showing_heirs _ _ _ _ refused).1 }

pub census-requires : goal.census-requires
census-requires c = let t = undamaged (goal.at.census-requires c).Else-not-is_sound in (census_lengths _ _ t, census_links _ _ t)

pub returns : goal.returns
returns c =
    let counted = census_counted _ _ _ _ (undamaged (goal.at.returns c).Else-not-is_sound) _ c.census.ensures in
    record { is_census = counted; shows_heirs = (showing_heirs _ _ _ _ counted).1 }
