-- Laws of the ranges that LOOKUP looks for, place by place and order by order.
use Prim.Native.Nat.{ℕ, zero, suc, ◌+◌, ◌-◌, ◌^◌, ◌≤◌, ◌<◌}
use mathlib.Core.Path.{◌≡◌, refl, sym}
use mathlib.Core.Bool.{Bool, true, false, ◌&&◌, and-true, and_assoc}
use native.Mathlib.Nat.{mod-lt, add-zero}
use native.Mathlib.Omega.{arith}
use lib.Dec.{eqb}
use lib.Pow.{pow_pos}
use Rattle.words.specs.Ranges.{rounded}
use Rattle.words.proofs.RangeLaws.{rounded_divides, range_ends}
use Rattle.std.specs.List.{list_all, range_with_len}
use Rattle.interface.specs.Basics.{all_below}
use Rattle.interface.specs.Places.{Cap, live}
use Rattle.interface.specs.Lookup.{uniform, largest}
use Rattle.interface.proofs.Basics.LoopLaws.{all_below_none, so_far_more}

-- a range around a selector ends in its space, and the selector lies in it
pub around_ends : (greatest order selector : ℕ) → order ≤ greatest → selector < 2 ^ greatest → rounded order selector + 2 ^ order ≤ 2 ^ greatest
around_ends greatest order selector small inside = range_ends greatest order (rounded order selector) small (rounded_divides order selector) (omega arith)

pub range_holds : (order selector : ℕ) → selector < rounded order selector + 2 ^ order
range_holds order selector = omega (arith, mod-lt selector (pow_pos order))

-- whether a capability is live, with some permissions and the resource that is an offset past another
abbrev pub continued : Cap → ℕ → ℕ → ℕ → Bool
continued cap permissions resource offset = live cap && eqb cap.permissions permissions && eqb cap.resource (resource + offset)

-- and the one at an offset of a range
abbrev pub continued_at : (ℕ → Cap) → ℕ → ℕ → ℕ → ℕ → Bool
continued_at caps low permissions resource offset = continued (caps (low + offset)) permissions resource offset

-- the range of an order around a selector: its lowest selector, its size, and the permissions and the resource that its places are held to
pub record Around (caps : ℕ → Cap) (selector order low size permissions resource : ℕ) : Type 0 where
  pub is_low : low ≡ rounded order selector
  pub is_size : size ≡ 2 ^ order
  pub is_permissions : permissions ≡ (caps selector).permissions
  pub is_resource_lem : resource ≡ (caps low).resource

module _ {caps : ℕ → Cap} {selector order low size permissions resource : ℕ} (range : Around caps selector order low size permissions resource) where
  pub uniform_is : uniform caps selector order ≡ all_below size (continued_at caps low permissions resource)
  unfolding uniform
  uniform_is = rw (range.is_permissions, range.is_resource_lem, range.is_size, range.is_low)

-- a test of the numbers of a range
module _ (test : ℕ → Bool) where
  all_from : (n from : ℕ) → (all_below from test && list_all test (range_with_len from n)) ≡ all_below (from + n) test
  all_from zero from = rw (add-zero from, and-true (all_below from test))
  all_from (suc n) from =
      let next : from + suc n ≡ from + 1 + n = omega arith in
      rw (next, ← all_from n (from + 1), ← so_far_more test from (test from) (all_below from test) refl refl) (sym (and_assoc (all_below from test) (test from) (list_all test (range_with_len (from + 1) n))))

  pub all_of_range : (n : ℕ) → list_all test (range_with_len 0 n) ≡ all_below n test
  all_of_range n = let e : 0 + n ≡ n = omega arith in rw (all_below_none test, e) at (all_from n 0)

-- the largest order from one on downward: that one, or one of those below it
module _ (caps : ℕ → Cap) (selector : ℕ) where
  pub largest_here : (order : ℕ) → 0 < order → uniform caps selector order ≡ true → largest caps selector order ≡ order
  unfolding largest
  largest_here zero l t = absurd (omega arith)
  largest_here (suc order) l t = rw t

  pub largest_below : (order : ℕ) → 0 < order → uniform caps selector order ≡ false → largest caps selector order ≡ largest caps selector (order - 1)
  unfolding largest
  largest_below zero l f = absurd (omega arith)
  largest_below (suc order) l f = let before : suc order - 1 ≡ order = omega arith in rw (f, before)

  -- no order is below 0
  pub largest_least : (order : ℕ) → order ≡ 0 → largest caps selector order ≡ 0
  unfolding largest
  largest_least order e = rw e
