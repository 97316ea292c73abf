-- Laws of sizes: the order and the number of selectors of the object space and of the others, and that no space has more selectors than the object space.
use Prim.Native.Nat.{ℕ, ◌^◌, ◌≤◌}
use mathlib.Core.Path.{◌≡◌}
use mathlib.Core.Bool.{Bool, true, false, cond}
use native.Mathlib.Omega.{arith}
use lib.Dec.{eqb}
use borrow.Author.Tests.{eq-eqb, ne_eqb}
use Rattle.words.specs.Sizes.{object, object_order, page_order, greatest_order, selectors}

pub order_object : (space : ℕ) → space ≡ object → greatest_order space ≡ object_order
order_object space e = rw (eq-eqb space object e)

pub order_other : (space : ℕ) → (space ≡ object → ⊥) → greatest_order space ≡ page_order
order_other space n = rw (ne_eqb space object n)

pub selectors_object : (space : ℕ) → space ≡ object → selectors space ≡ 2 ^ object_order
selectors_object space e = rw (order_object space e)

pub selectors_other : (space : ℕ) → (space ≡ object → ⊥) → selectors space ≡ 2 ^ page_order
selectors_other space n = rw (order_other space n)

-- no order exceeds that of the object space, so no space has more selectors than it
pub greatest_small : (space : ℕ) → greatest_order space ≤ object_order
greatest_small space = go (eqb space object)
  where
    go : (there : Bool) → cond there object_order page_order ≤ object_order
    go true = omega arith
    go false = omega arith

pub selectors_few : (space : ℕ) → selectors space ≤ selectors object
selectors_few space = go (eqb space object)
  where
    go : (there : Bool) → 2 ^ cond there object_order page_order ≤ selectors object
    go true = omega arith
    go false = omega arith
