-- A part of a buffer that is copied to its front.
use Prim.Native.Nat.{ℕ, ◌-◌, ◌≤◌}
use mathlib.Core.Path.{◌≡◌}
use mathlib.Core.List.{List}
use native.Mathlib.Omega.{arith}
use lib.ListN.{take, drop, length, length-drop}
use lib.Seq.{length-take-le, take_at}
use Rattle.turns.specs.Buffers.{fronted}

-- the bytes moved to the front of a buffer stand there
pub moved_front : (before after : List ℕ) (from to : ℕ) → from ≤ to → to ≤ length before → after ≡ fronted before from (to - from) →
    take (to - from) after ≡ take (to - from) (drop from before)
moved_front before after from to forward inside moved =
    let left = length-drop from before in
    rw moved (take_at (take (to - from) (drop from before)) (drop (to - from) before) (to - from) (length-take-le (to - from) (drop from before) (omega arith)))
