-- No range of an order above the loop's is uniform.
use Prim.Native.Nat.{◌+◌, ◌≤◌}
use mathlib.Core.Path.{◌≡◌}
use Rattle.interface.specs.Places.{cap_at}
use Rattle.interface.specs.Lookup.{largest}
use Rattle.lookup.proofs.largest_order.Given as goal

abbrev pub invariant-loop-order : goal.invariant-loop-order
invariant-loop-order l =
    (l.order ≤ l.greatest) × (largest (λ k. cap_at l.places (l.first.0 + k)) l.selector l.greatest ≡ largest (λ k. cap_at l.places (l.first.0 + k)) l.selector l.order)
