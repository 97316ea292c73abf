-- What waits lies in the buffer. The measure is how many lines are left: each call spells one more at least.
use Prim.Native.Nat.{◌-◌, ◌≤◌}
use mathlib.Core.Path.{◌≡◌}
use lib.ListN.{length}
use Rattle.hip_text.specs.PageText.{page_lines}
use Rattle.hip.proofs.print_page.Given as goal

abbrev pub invariant-loop-spelled : goal.invariant-loop-spelled
invariant-loop-spelled g l = (length l.out ≡ length l.initial.out) × (l.spelled.count ≤ length l.out) × (l.spelled.lines ≡ length (page_lines l.page))

abbrev pub decreases-loop-spelled : goal.decreases-loop-spelled
decreases-loop-spelled g l = l.spelled.lines - l.spelled.next
