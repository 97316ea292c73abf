-- Numbers and their bytes make each other, for every width; a number's bytes are those of its low and of its high part.
use Prim.Native.Nat.{ℕ, zero, suc, ◌+◌, ◌*◌, ◌/◌, ◌%◌, ◌^◌, ◌≤◌, ◌<◌}
use mathlib.Core.Path.{◌≡◌, refl, ap, ◌∙◌}
use mathlib.Core.List.{List, [], ◌∷◌, ◌++◌}
use native.Mathlib.Nat.{pow-suc, one-le-pow, div-div-eq-div-mul}
use native.Mathlib.Numerals.{add-one}
use native.Mathlib.Omega.{arith}
use lib.Arith.{mod-mul}
use lib.ListN.{length, get_or}
use lib.Seq.{take-nil, drop-nil, take_at, drop_at}
use Rattle.endian.specs.Parts.{AreBytes, part}
use Rattle.endian.specs.Numbers.{little, bytes_of, number_at}
pub use Rattle.endian.specs.Numbers.{length_bytes}
use Rattle.endian.proofs.PartLaws.{length_part, part_bytes}

-- each of them is a byte
pub bytes_bytes : (width number : ℕ) → AreBytes (bytes_of width number)
unfolding bytes_of
bytes_bytes zero number i = omega arith
bytes_bytes (suc width) number zero = omega arith
bytes_bytes (suc width) number (suc i) = bytes_bytes width (number / 256) i

-- the bytes of a number that fits make the number
pub little_bytes : (width number : ℕ) → number < 256 ^ width → little (bytes_of width number) ≡ number
unfolding little bytes_of
little_bytes zero number small = omega arith
little_bytes (suc width) number small =
    let rest : little (bytes_of width (number / 256)) ≡ number / 256 = little_bytes width (number / 256) (omega (arith, pow-suc 256 width)) in
    rw rest (omega arith)

-- the number of some bytes has these bytes
pub bytes_little : (bytes : List ℕ) → AreBytes bytes → bytes_of (length bytes) (little bytes) ≡ bytes
unfolding little bytes_of
bytes_little [] each = refl
bytes_little (byte ∷ bytes) each =
    let rest = little bytes in
    let low : (byte + 256 * rest) % 256 ≡ byte = omega (arith, each 0) in
    let high : (byte + 256 * rest) / 256 ≡ rest = omega (arith, each 0) in
    rw (low, high, bytes_little bytes (λ i. each (suc i)))

-- and is below the power of 256 that has their number
pub little_below : (bytes : List ℕ) → AreBytes bytes → little bytes < 256 ^ length bytes
unfolding little
little_below [] each = omega arith
little_below (byte ∷ bytes) each = omega (arith, each 0, little_below bytes (λ i. each (suc i)), pow-suc 256 (length bytes))

-- the number of two lists of bytes
pub little_append : (first second : List ℕ) → little (first ++ second) ≡ little first + 256 ^ length first * little second
unfolding little
little_append [] second = omega arith
little_append (byte ∷ first) second = rw (little_append first second, pow-suc 256 (length first)) (omega arith)

-- the bytes of a number are those of its low part and those of its high part
pub bytes_add : (low high number : ℕ) → bytes_of (low + high) number ≡ bytes_of low number ++ bytes_of high (number / 256 ^ low)
unfolding bytes_of
bytes_add zero high number =
    let same : number / 1 ≡ number = omega arith in
    let none : zero + high ≡ high = omega arith in
    rw (none, same)
bytes_add (suc low) high number =
    let more : suc low + high ≡ suc (low + high) = omega arith in
    let parts : number / 256 / 256 ^ low ≡ number / 256 ^ suc low = div-div-eq-div-mul number 256 (256 ^ low) ∙ ap (λ (k : ℕ). number / k) (omega (arith, pow-suc 256 low)) in
    rw (more, bytes_add low high (number / 256), parts)

-- the low bytes of a number are those of its low part
pub bytes_low : (width number : ℕ) → bytes_of width (number % 256 ^ width) ≡ bytes_of width number
unfolding bytes_of
bytes_low zero number = refl
bytes_low (suc width) number =
    let power = 256 ^ width in
    let split : number % 256 ^ suc width ≡ number / 256 % power * 256 + number % 256 =
    ap (λ (k : ℕ). number % k) (omega (arith, pow-suc 256 width)) ∙ mod-mul number {m = power} {c = 256} (one-le-pow width 256 (omega arith)) (omega arith) in
    let low : (number / 256 % power * 256 + number % 256) % 256 ≡ number % 256 = omega arith in
    let high : (number / 256 % power * 256 + number % 256) / 256 ≡ number / 256 % power = omega arith in
    rw (split, low, high, bytes_low width (number / 256))

-- the number at a place is that of the byte there, which is 0 past the end, and that of the bytes after it
number_cons : (bytes : List ℕ) (at size : ℕ) → number_at bytes at (suc size) ≡ get_or bytes at 0 + 256 * number_at bytes (at + 1) size
unfolding little number_at
number_cons [] at size = rw (drop-nil at, drop-nil (at + 1), take-nil size)
number_cons (byte ∷ bytes) zero size = refl
number_cons (byte ∷ bytes) (suc at) size =
    rw add-one (rw add-one at (number_cons bytes at size))

-- the number of two bytes at a place; a byte past the end is 0
pub number_of_two : (bytes : List ℕ) (at r : ℕ) → r ≡ little (get_or bytes at 0 ∷ get_or bytes (at + 1) 0 ∷ []) → r ≡ number_at bytes at 2
unfolding little number_at
number_of_two bytes at r e = rw (number_cons bytes at 1, number_cons bytes (at + 1) 0) e

-- the number of four bytes at a place; a byte past the end is 0
pub number_of_four : (bytes : List ℕ) (at r : ℕ) →
    r ≡ little (get_or bytes at 0 ∷ get_or bytes (at + 1) 0 ∷ get_or bytes (at + 2) 0 ∷ get_or bytes (at + 3) 0 ∷ []) → r ≡ number_at bytes at 4
unfolding little number_at
number_of_four bytes at r e =
    let two : at + 1 + 1 ≡ at + 2 = omega arith in
    let three : at + 2 + 1 ≡ at + 3 = omega arith in
    rw (number_cons bytes at 3, number_cons bytes (at + 1) 2, two, number_cons bytes (at + 2) 1, three, number_cons bytes (at + 3) 0) e

-- the number at a place where a number's bytes stand
pub number_back : (front rest : List ℕ) (at width number : ℕ) → length front ≡ at → number < 256 ^ width → number_at (front ++ (bytes_of width number ++ rest)) at width ≡ number
unfolding number_at
number_back front rest at width number place small =
    rw (drop_at front (bytes_of width number ++ rest) at place, take_at (bytes_of width number) rest width (length_bytes width number)) (little_bytes width number small)

-- the bytes of the number at a place are those that stand there
pub bytes_at : (bytes : List ℕ) (at width : ℕ) → AreBytes bytes → at + width ≤ length bytes → bytes_of width (number_at bytes at width) ≡ part bytes at width
unfolding number_at
bytes_at bytes at width each fits =
    let whole = part bytes at width in
    let again : bytes_of (length whole) (little whole) ≡ whole = bytes_little whole (part_bytes bytes at width each) in
    rw (length_part bytes at width fits) at again

-- the number at a place is below the power of 256 that has its width
pub number_below : (bytes : List ℕ) (at width : ℕ) → AreBytes bytes → at + width ≤ length bytes → number_at bytes at width < 256 ^ width
unfolding number_at
number_below bytes at width each fits =
    let whole = part bytes at width in
    let below : little whole < 256 ^ length whole = little_below whole (part_bytes bytes at width each) in
    rw (length_part bytes at width fits) at below
