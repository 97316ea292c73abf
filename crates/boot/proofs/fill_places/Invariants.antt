-- The places below the loop's number hold what they do at boot.
use Prim.Native.Nat.{◌-◌}
use Rattle.words.specs.Sizes.{places}
use Rattle.boot.proofs.FillingLaws.{PlacesBelow}
use Rattle.boot.proofs.fill_places.Given as goal

abbrev pub invariant-loop-number : goal.invariant-loop-number
invariant-loop-number l = PlacesBelow l.number l.table

abbrev pub decreases-loop-number : goal.decreases-loop-number
decreases-loop-number l = places - l.number
