-- Items one after the other: the bytes of each, and what stands at places a distance apart.
use Rattle.std.specs.Prelude.{ℕ, zero, suc, ◌+◌, ◌*◌, ◌^◌, ◌≤◌, ◌<◌, ◌≡◌, List, [], ◌∷◌, ◌++◌, length, get_or}
use Rattle.endian.specs.Parts.{AreBytes, part}
use Rattle.endian.specs.Numbers.{bytes_of, number_at}

-- the bytes of each member of a list, in turn
unfoldable pub bytes_of_each : {A : Type 0} → (A → List ℕ) → List A → List ℕ
bytes_of_each bytes [] = []
bytes_of_each bytes (one ∷ others) = bytes one ++ bytes_of_each bytes others

-- what stands at so many places, the first of them and the distance from each to the next given
unfoldable pub spaced : {A : Type 0} → (ℕ → A) → ℕ → ℕ → ℕ → List A
spaced what at distance zero = []
spaced what at distance (suc count) = what at ∷ spaced what (at + distance) distance count

-- so many numbers one after the other from a place on, each so many bytes wide
abbrev pub numbers_at : List ℕ → ℕ → ℕ → ℕ → List ℕ
numbers_at bytes at width count = spaced (λ (place : ℕ). number_at bytes place width) at width count

-- what holds of each member of a list
abbrev pub Each : {A : Type 0} → (A → Type 0) → List A → Type 0
Each Holding [] = Unit {0}
Each Holding (one ∷ others) = Holding one × Each Holding others

-- numbers that fit and the bytes of them in turn make each other, for every width
pub record RunsBothWays : Type 0 where
  pub numbers_back : (width : ℕ) (numbers front rest : List ℕ) → ((i : ℕ) → get_or numbers i 0 < 256 ^ width) →
      numbers_at (front ++ (bytes_of_each (bytes_of width) numbers ++ rest)) (length front) width (length numbers) ≡ numbers
  pub bytes_back : (width at count : ℕ) (bytes : List ℕ) → AreBytes bytes → at + width * count ≤ length bytes →
      bytes_of_each (bytes_of width) (numbers_at bytes at width count) ≡ part bytes at (width * count)
