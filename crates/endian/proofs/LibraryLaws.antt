-- What the library's conversions give is what the definitions say.
use Prim.Native.Nat.{ℕ, zero, suc, ◌+◌, ◌*◌, ◌-◌, ◌/◌, ◌%◌, ◌^◌, ◌<◌}
use mathlib.Core.Path.{◌≡◌, refl, sym, ap, ◌∙◌}
use mathlib.Core.List.{List, [], ◌∷◌}
use native.Mathlib.Nat.{pow-suc, mul_comm, div-div-eq-div-mul}
use native.Mathlib.Omega.{arith}
use lib.ListN.{length, take, get_or}
use lib.Seq.{length-take-le, take-length, take-suc}
use Rattle.std.specs.Int.{Width, byte_len, byte_at, byte_worth, bytes_low_first, sum_through, to_le_bytes, from_le_bytes}
use Rattle.endian.specs.Numbers.{little, bytes_of}
use Rattle.endian.proofs.NumberLaws.{little_append}

-- the bytes of a number from one on are those of what is left of it there
low_first : (k i number : ℕ) → bytes_low_first i k number ≡ bytes_of k (number / 256 ^ i)
unfolding bytes_of
low_first zero i number = refl
low_first (suc k) i number =
    let next : number / 256 ^ suc i ≡ number / 256 ^ i / 256 = sym (div-div-eq-div-mul number (256 ^ i) 256 ∙ ap (λ (m : ℕ). number / m) (omega (arith, pow-suc 256 i))) in
    let byte : byte_at i number ≡ number / 256 ^ i % 256 = there i in
    rw (byte, low_first k (suc i) number, next)
  where
    there : (i : ℕ) → byte_at i number ≡ number / 256 ^ i % 256
    there zero = omega arith
    there (suc i) = refl

pub bytes_written : (w : Width) (number : ℕ) → to_le_bytes w number ≡ bytes_of (byte_len w) number
bytes_written w number = low_first (byte_len w) 0 number ∙ ap (bytes_of (byte_len w)) (omega arith)

-- the worths of the first bytes make their number
worth_is : (i byte : ℕ) → byte_worth i byte ≡ 256 ^ i * byte
worth_is zero byte = omega arith
worth_is (suc i) byte = mul_comm byte (256 ^ suc i)

little_none : little [] ≡ 0
unfolding little
little_none = refl

little_one : (byte : ℕ) → little (byte ∷ []) ≡ byte
unfolding little
little_one byte = omega arith

little_more : (bytes : List ℕ) (k : ℕ) → k < length bytes → little (take (suc k) bytes) ≡ little (take k bytes) + 256 ^ k * get_or bytes k 0
little_more bytes k more =
    let before : length (take k bytes) ≡ k = length-take-le k bytes (omega arith) in
    rw (take-suc bytes k 0 more, little_append (take k bytes) (get_or bytes k 0 ∷ []), before, little_one (get_or bytes k 0))

low_sum : (bytes : List ℕ) (k : ℕ) → k < length bytes → sum_through (λ i. byte_worth i (get_or bytes i 0)) k ≡ little (take (suc k) bytes)
low_sum bytes zero more = omega (arith, little_more bytes 0 more, little_none)
low_sum bytes (suc k) more = rw (low_sum bytes k (omega arith), worth_is (suc k) (get_or bytes (suc k) 0)) (sym (little_more bytes (suc k) more))

pub number_read : (w : Width) (bytes : List ℕ) → 0 < byte_len w → length bytes ≡ byte_len w → from_le_bytes w bytes ≡ little bytes
number_read w bytes some long =
    let all : suc (byte_len w - 1) ≡ length bytes = omega arith in
    low_sum bytes (byte_len w - 1) (omega arith) ∙ (rw (all, take-length bytes))
