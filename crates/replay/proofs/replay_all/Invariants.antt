-- The positions lie in the buffers after each turn, and the loop counts the turns.
use mathlib.Core.Path.{◌≡◌}
use mathlib.Core.Bool.{true}
use lib.ListN.{length}
use Rattle.interface.specs.Places.{tables}
use Rattle.interface.specs.Damage.{sound}
use Rattle.turns.specs.Buffers.{Inside, begun, Turns}
use Rattle.replay.proofs.replay_all.Given as goal

abbrev pub invariant-loop-turn : goal.invariant-loop-turn
invariant-loop-turn g l =
    Inside l.progress l.input l.out × (length l.places ≡ length l.initial.places) × (length l.objects ≡ length l.initial.objects) × (length l.input ≡ length l.initial.input) ×
    (length l.out ≡ length l.initial.out) × (sound (tables l.places l.objects) ≡ true) ×
    Turns l.turn (record { progress = begun l.waiting; tables = tables l.initial.places l.initial.objects; input = l.initial.input; out = l.initial.out })
    (record { progress = l.progress; tables = tables l.places l.objects; input = l.input; out = l.out })
