-- The ranges that are asked for lie in their spaces, whatever the sizes of those.
use Rattle.std.specs.Prelude.{Option, Some, None}
use Prim.Native.Nat.{ℕ, ◌%◌, ◌^◌, ◌≤◌, ◌<◌}
use mathlib.Core.Path.{◌≡◌, sym, ◌∙◌}
use mathlib.Core.Bool.{true}
use native.Mathlib.Omega.{arith}
use borrow.Author.Tests.{eq-eqb}
use Rattle.words.specs.Sizes.{greatest_order, selectors, spaces}
use Rattle.words.specs.Ranges.{aligned}
use Rattle.words.proofs.RangeLaws.{aligned_divides, range_ends}
use Rattle.layout.specs.declared.Selector.{Selector}
use Rattle.layout.specs.Numbers.{selected}
use Rattle.descriptor.specs.Descriptors.{Proper, describe}
use Rattle.layout.proofs.NumberLaws.{selected_named, selected_none}
use Rattle.requests.specs.Requests.{masked_range}

-- each selector begins a range of order 0
pub aligned_single : (selector : ℕ) → aligned 0 selector ≡ true
aligned_single selector = eq-eqb (selector % 1) 0 (omega arith)

-- an aligned range that begins in its space lies in it
masked_proper : (space base order mask : ℕ) → space < spaces → order ≤ greatest_order space → aligned order base ≡ true → base < selectors space → mask < 2 ^ 5 →
    Proper (masked_range space base order mask)
masked_proper space base order mask is_space is_order is_aligned is_selector is_mask =
    record {
      space_small = is_space;
      order_small = is_order;
      base_aligned = is_aligned;
      ends_inside = range_ends (greatest_order space) order base is_order ((aligned_divides order base).0 is_aligned) is_selector;
      mask_small = is_mask;
    }

-- the word of a selector names it in its space
module _ (space base : ℕ) {found : (Option Selector)} (is_found : found ≡ selected space base) (is_selector : base < selectors space) where
  pub never_outside : found ≡ None → ⊥
  never_outside none = selected_none space base is_selector (sym is_found ∙ none)

  module _ {selector : Selector} (is_named : found ≡ Some selector) where
    named_same : selector.0 ≡ base
    named_same = selected_named space base selector is_selector (sym is_found ∙ is_named)

    -- so that the range from it on is as proper
    pub named_proper : (order mask : ℕ) → space < spaces → order ≤ greatest_order space → aligned order base ≡ true → mask < 2 ^ 5 →
        Proper (masked_range space selector.0 order mask)
    named_proper order mask is_space is_order is_aligned is_mask = rw named_same (masked_proper space base order mask is_space is_order is_aligned is_selector is_mask)

    -- and its descriptor is that range's
    pub named_describes : (order mask : ℕ) {descriptor word : ℕ} → word ≡ descriptor → descriptor ≡ describe (masked_range space selector.0 order mask) →
        word ≡ describe (masked_range space base order mask)
    named_describes order mask is_Is_word described = is_Is_word ∙ rw (sym named_same) described
