-- The records up to where the loop stands are played. The measure is the number of bytes that are left.
use Prim.Native.Nat.{◌+◌, ◌-◌, ◌^◌, ◌≤◌, ◌<◌}
use mathlib.Core.Path.{◌≡◌}
use mathlib.Core.Bool.{true}
use lib.ListN.{length, take, drop}
use Rattle.interface.specs.Places.{tables}
use Rattle.interface.specs.Damage.{sound}
use Rattle.playback.specs.Playing.{found_in, Plays}
use Rattle.playback.proofs.play_records.Given as goal

abbrev pub invariant-loop-next : goal.invariant-loop-next
invariant-loop-next l =
    (l.at ≤ length l.input) × (l.initial.written ≤ length l.initial.out) × (l.written ≤ length l.out) × (l.index ≤ l.initial.index + l.at) × (l.initial.index + length l.input < 2 ^ 64) ×
    (length l.places ≡ length l.initial.places) × (length l.objects ≡ length l.initial.objects) × (length l.out ≡ length l.initial.out) ×
    Plays (take l.at l.input) (tables l.initial.places l.initial.objects) l.initial.index l.initial.out l.initial.written (tables l.places l.objects) l.index l.out l.written ×
    (sound (tables l.places l.objects) ≡ true) × (l.next ≡ found_in (drop l.at l.input))

abbrev pub decreases-loop-next : goal.decreases-loop-next
decreases-loop-next l = length l.input - l.at
