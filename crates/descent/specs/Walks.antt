-- Walks along the parent links of a place table.
use Rattle.std.specs.Prelude.{ℕ, ◌≤◌, suc, ◌+◌, ◌<◌, ◌≡◌, Bool, ◌&&◌, eqb, List, [], ◌∷◌, if◌then◌else◌}
use Rattle.words.specs.Sizes.{places, space_of}
use Rattle.interface.specs.Basics.{all_below}
use Rattle.interface.specs.Places.{Cap, cap_at}
use Rattle.interface.specs.Effects.{among, below}
use Rattle.marks.specs.PlaceBits.{bit_at}

-- links that a walk can follow: a parent is a place of the same space whose depth is one less, and a place without a parent has depth 0
pub record Linked (caps : ℕ → Cap) : Type 0 where
  pub rooted : (p : ℕ) → p < places → (caps p).parent ≡ 0 → (caps p).depth ≡ 0
  pub parent_place : (p q : ℕ) → p < places → (caps p).parent ≡ suc q → q < places
  pub parent_space : (p q : ℕ) → p < places → (caps p).parent ≡ suc q → space_of q ≡ space_of p
  pub parent_depth : (p q : ℕ) → p < places → (caps p).parent ≡ suc q → (caps p).depth ≡ suc (caps q).depth

-- some places of one space: a place, and as many as `size` says from it on
pub record InSpace (first size : ℕ) : Type 0 where
  pub first_place : first < places
  pub ends : first + size ≤ places
  pub one_space : (p : ℕ) → first ≤ p → p < first + size → space_of p ≡ space_of first

-- the first place of a list that is among some places: its number plus 1, or 0 where there is none
unfoldable pub first_among : ℕ → ℕ → List ℕ → ℕ
first_among first size [] = 0
first_among first size (place ∷ list) = if among first size place then place + 1 else first_among first size list

-- whether some places from one on have no parents
unfoldable pub parentless_from : (ℕ → Cap) → ℕ → ℕ → Bool
parentless_from caps place n = all_below n (λ i. eqb (caps (place + i)).parent 0)

-- marks that are a test's answers for the places
pub record Marked (test : ℕ → Bool) (marks : List ℕ) : Type 0 where
  pub told : (place : ℕ) → place < places → bit_at marks place ≡ test place

-- a table on which the strict descendants of some places are being marked: the marks tell of the places before one and of those that are known, and no other mark is set
pub record Marking (table : List ℕ) (first size walked : ℕ) (known marks : List ℕ) : Type 0 where
  pub before : (place : ℕ) → place < walked → bit_at marks place ≡ below (cap_at table) first size place
  pub later : (place : ℕ) → walked ≤ place → bit_at marks place ≡ (bit_at known place && below (cap_at table) first size place)
