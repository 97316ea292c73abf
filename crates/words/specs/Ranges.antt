-- Ranges: 2 ^ order selectors from a base on that is a multiple of as many.
use Rattle.std.specs.Prelude.{ℕ, ◌+◌, ◌-◌, ◌%◌, ◌^◌, ◌≤◌, ◌<◌, ◌≡◌, Bool, true, ◌↔◌, eqb}
use Rattle.std.specs.Int.Count.{count_trailing_zeros}
use Rattle.words.specs.Sizes.{greatest_order, selectors}

-- a base is aligned when it has at least as many trailing zero bits as the order says: when it is a multiple of 2 ^ order
abbrev pub aligned : ℕ → ℕ → Bool
aligned order base = eqb (base % 2 ^ order) 0

-- a number rounded down to a multiple of 2 ^ order
abbrev pub rounded : ℕ → ℕ → ℕ
rounded order number = number - number % 2 ^ order

-- the base of one side of a delegation: that of a side of larger order is raised by the hotspot within it, rounded down to the smaller order; that of a side of
-- the smaller order stays
abbrev pub raised : ℕ → ℕ → ℕ → ℕ → ℕ
raised order smaller hotspot base = base + rounded smaller (hotspot % 2 ^ order)

-- The alignment fact: for every order up to the width of a word, a base is aligned exactly when it has at least that many trailing zero bits; and base 0 is aligned for every order
pub record AlignmentFact : Type 0 where
  pub aligned_zeros : (width order base : ℕ) → order ≤ width → (aligned order base ≡ true) ↔ (order ≤ count_trailing_zeros width base)
  pub zero_aligned : (order : ℕ) → aligned order 0 ≡ true

-- The range fact: a range that is aligned, of an order up to the greatest, and begins below 2 ^ greatest lies below that, whatever the two orders; and that is so of each space
pub record RangeFact : Type 0 where
  pub stays_inside : (greatest order base offset : ℕ) → order ≤ greatest → aligned order base ≡ true → base < 2 ^ greatest → offset < 2 ^ order →
      base + offset < 2 ^ greatest
  pub stays_in_space : (space order base offset : ℕ) → order ≤ greatest_order space → aligned order base ≡ true → base < selectors space → offset < 2 ^ order →
      base + offset < selectors space

-- The hotspot fact: the raised base begins a range of the smaller order, inside the side's own range, that holds the place of the hotspot; with equal orders it is the base itself
pub record HotspotFact : Type 0 where
  pub equal_orders : (order hotspot base : ℕ) → raised order order hotspot base ≡ base
  pub keeps_aligned : (order smaller hotspot base : ℕ) → smaller ≤ order → aligned order base ≡ true → aligned smaller (raised order smaller hotspot base) ≡ true
  pub starts_inside : (order smaller hotspot base : ℕ) → base ≤ raised order smaller hotspot base
  pub ends_inside : (order smaller hotspot base : ℕ) → smaller ≤ order → raised order smaller hotspot base + 2 ^ smaller ≤ base + 2 ^ order
  pub holds_hotspot : (order smaller hotspot base : ℕ) →
      (raised order smaller hotspot base ≤ base + hotspot % 2 ^ order) × (base + hotspot % 2 ^ order < raised order smaller hotspot base + 2 ^ smaller)
