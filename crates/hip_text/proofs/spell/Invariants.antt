-- The buffer has the lines that the loop has passed. The measure is how many lines are left.
use Prim.Native.Nat.{◌-◌, ◌≤◌}
use mathlib.Core.Path.{◌≡◌}
use lib.ListN.{length}
use Rattle.hip_text.specs.PageText.{page_lines}
use Rattle.hip_text.proofs.LineLaws.{SoFar}
use Rattle.hip_text.proofs.spell.Given as goal

abbrev pub invariant-loop-next : goal.invariant-loop-next
invariant-loop-next l = (length l.out ≡ length l.initial.out) × (l.count ≤ length l.out) × SoFar (page_lines l.bytes) l.from l.initial.out l.out l.next l.count

abbrev pub decreases-loop-next : goal.decreases-loop-next
decreases-loop-next l = l.lines - l.next
