-- Numbers as bytes, the lowest byte first.
use Rattle.std.specs.Prelude.{ℕ, zero, suc, ◌+◌, ◌*◌, ◌/◌, ◌%◌, ◌^◌, ◌<◌, ◌≡◌, List, [], ◌∷◌, length}
use Rattle.std.proofs.Common.{refl, ap}
use Rattle.endian.specs.Parts.{AreBytes, part}

-- the number of some bytes
unfoldable pub little : List ℕ → ℕ
little [] = 0
little (byte ∷ bytes) = byte + 256 * little bytes

-- the bytes of a number, so many of them
unfoldable pub bytes_of : ℕ → ℕ → List ℕ
bytes_of zero number = []
bytes_of (suc width) number = number % 256 ∷ bytes_of width (number / 256)

-- a number has as many bytes as were asked for
pub length_bytes : (width number : ℕ) → length (bytes_of width number) ≡ width
unfolding bytes_of
length_bytes zero number = refl
length_bytes (suc width) number = ap suc (length_bytes width (number / 256))

-- the number that stands at a place, so many bytes wide; bytes past the end of the list count as 0
unfoldable pub number_at : List ℕ → ℕ → ℕ → ℕ
number_at bytes at width = little (part bytes at width)

-- for every width a number that fits is the number of its bytes, and bytes are the bytes of their number
pub record BothWays : Type 0 where
  pub number_back : (width number : ℕ) → number < 256 ^ width → little (bytes_of width number) ≡ number
  pub bytes_back : (bytes : List ℕ) → AreBytes bytes → bytes_of (length bytes) (little bytes) ≡ bytes
