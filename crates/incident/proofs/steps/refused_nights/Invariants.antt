-- The tables keep their lengths.
use mathlib.Core.Path.{◌≡◌}
use lib.ListN.{length}
use Rattle.incident.proofs.steps.refused_nights.Given as goal

abbrev pub invariant-loop-night : goal.invariant-loop-night
invariant-loop-night l = (length l.places ≡ length l.initial.places) × (length l.objects ≡ length l.initial.objects)
