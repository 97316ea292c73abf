-- What LOOKUP answers: the range around a base, and the reply to each reading of a descriptor.
use Rattle.std.specs.Prelude.{Ok, Err}
use Prim.Native.Nat.{ℕ, ◌+◌, ◌*◌, ◌%◌, ◌^◌, ◌≤◌, ◌<◌}
use mathlib.Core.Path.{◌≡◌, ◌∙◌}
use mathlib.Core.Bool.{true, false}
use mathlib.Core.List.{List}
use native.Mathlib.Nat.{mod-eq_of_lt}
use native.Mathlib.Omega.{arith}
use lib.Pow.{pow_pos}
use Rattle.words.specs.Sizes.{domains, object, spaces, selectors, start, stride, greatest_order, place_of}
use Rattle.words.specs.Sizes.{places as placeCount}
use Rattle.words.specs.Ranges.{rounded}
use Rattle.words.proofs.RangeLaws.{aligned_divides, rounded_divides}
use Rattle.words.proofs.SizeLaws.{selectors_few}
use Rattle.words.proofs.PlaceLaws.{start_rises}
use Rattle.descriptor.specs.declared.Range.{Range}
use Rattle.descriptor.specs.declared.Reading.TheVariants.{Null, Malformed, Good}
use Rattle.reply.specs.declared.Refusal.TheVariants.{BadPar}
use Rattle.descriptor.specs.Descriptors.{Proper, describe, reading}
use Rattle.interface.specs.Places.{Cap, State, live, domain_word, cap_at, view}
use Rattle.interface.specs.Verdicts.{Call, reply_of}
use Rattle.interface.specs.Lookup.{largest, around, found, lookup}
use Rattle.lookup.proofs.UniformLaws.{around_ends}

-- a range's base in a domain: where its space begins there, the base's selector, and what the base's place holds
pub record Base (places : List ℕ) (domain : ℕ) (range : Range) (first selector : ℕ) (cap : Cap) : Type 0 where
  pub proper : Proper range
  pub is_first : first ≡ domain * stride + start range.space
  pub is_selector : selector ≡ range.base
  pub is_cap : cap ≡ cap_at places (first + selector)

module _ {places : List ℕ} {domain first selector : ℕ} {range : Range} {cap : Cap} (base : Base places domain range first selector cap) where
  -- nothing is held there
  pub nothing_found : live cap ≡ false → (objects : List ℕ) → 0 ≡ found (view places objects) domain (Good range)
  unfolding found
  nothing_found none objects =
      let at_base : live (cap_at places (place_of domain range.space range.base)) ≡ false = rw (base.is_cap, base.is_first, base.is_selector) at none in
      rw at_base

  pub base_small : selector < selectors range.space
  base_small = omega (arith, base.is_selector, base.proper.ends_inside, pow_pos range.order)

  pub space_ends : domain < domains → first + selectors range.space ≤ placeCount
  space_ends h = omega (arith, base.is_first, start_rises range.space spaces base.proper.space_small)

  module _ {order low : ℕ} (small : order ≤ greatest_order range.space) (is_low : low ≡ rounded order selector % selectors object) where
    -- the lowest selector of the range of an order around the base
    low_rounded : low ≡ rounded order selector
    low_rounded = is_low ∙ mod-eq_of_lt (omega (arith, base_small, selectors_few range.space))

    -- that range is one
    pub around_proper : {space mask : ℕ} → space ≡ range.space → mask < 2 ^ 5 → Proper (record { space = space; base = low; order = order; mask = mask })
    around_proper is_space mask_small =
        record {
          space_small = rw is_space base.proper.space_small;
          order_small = rw is_space small;
          base_aligned = rw low_rounded ((aligned_divides order (rounded order selector)).1 (rounded_divides order selector));
          ends_inside = rw (is_space, low_rounded) (around_ends (greatest_order range.space) order selector small base_small);
          mask_small = mask_small;
        }

    -- it is what is found, where the order is the largest and something is held
    pub range_found : {space answer : ℕ} → live cap ≡ true → order ≡ largest (λ k. cap_at places (first + k)) selector (greatest_order range.space) → space ≡ range.space →
        answer ≡ describe (record { space = space; base = low; order = order; mask = cap.permissions }) →
        (objects : List ℕ) → answer ≡ found (view places objects) domain (Good range)
    unfolding found around
    range_found some is_order is_space is_answer objects =
        let at_base : live (cap_at places (place_of domain range.space range.base)) ≡ true = rw (base.is_cap, base.is_first, base.is_selector) at some in
        let is_largest : order ≡ largest (λ k. cap_at places (place_of domain range.space k)) range.base (greatest_order range.space) =
        rw (base.is_first, base.is_selector) at is_order in
        rw (at_base, ← is_largest, is_answer, is_space, low_rounded, base.is_cap, base.is_first, base.is_selector)

-- the reply to each reading of a descriptor
module _ (s : State) {descriptor : ℕ} where
  pub null_answer : reading descriptor ≡ Null → (c : Call) → c.first ≡ descriptor → Ok 0 ≡ reply_of (lookup s c)
  unfolding lookup found
  null_answer e c is_first = rw (is_first, e)

  pub malformed_answer : reading descriptor ≡ Malformed → (c : Call) → c.first ≡ descriptor → Err BadPar ≡ reply_of (lookup s c)
  unfolding lookup
  malformed_answer e c is_first = rw (is_first, e)

  pub good_answer : {caller domain answer : ℕ} {range : Range} → reading descriptor ≡ Good range → domain ≡ s.objects caller domain_word →
      answer ≡ found s domain (Good range) → (c : Call) → c.caller ≡ caller → c.first ≡ descriptor → Ok answer ≡ reply_of (lookup s c)
  unfolding lookup
  good_answer e is_domain is_answer c is_caller is_first = rw (is_answer, is_domain, is_caller, is_first, e)
