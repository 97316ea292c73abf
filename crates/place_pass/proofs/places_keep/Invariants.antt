-- The loop's invariant: the places before this group pass the shorter test. The places after these decide by being blank.
use Prim.Native.Nat.{◌*◌, ◌/◌, ◌≤◌}
use mathlib.Core.Path.{◌≡◌}
use mathlib.Core.Bool.{true}
use Rattle.interface.specs.Basics.{all_below}
use Rattle.interface.specs.Places.{view}
use Rattle.place_pass.specs.PassKeeping.{quick_keeps, group}
use Rattle.place_pass.proofs.places_keep.Given as goal

abbrev pub invariant-loop-group : goal.invariant-loop-group
invariant-loop-group l = (l.group ≤ l.end / group) × (all_below (group * l.group) (quick_keeps (view l.table l.objects)) ≡ true)
