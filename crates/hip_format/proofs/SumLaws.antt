-- The sum of words, byte pair by byte pair.
use Prim.Native.Nat.{ℕ, zero, suc, ◌+◌, ◌*◌, ◌/◌, ◌%◌, ◌≤◌, ◌<◌}
use mathlib.Core.Path.{◌≡◌, refl, sym, ap, ◌∙◌}
use mathlib.Core.List.{List, [], ◌∷◌}
use native.Mathlib.Numerals.{add-one}
use native.Mathlib.Omega.{arith}
use lib.ListN.{length, take, drop, get_or, length-drop}
use lib.Seq.{drop-cons, drop-drop, get_or-drop, get_or-take}
use Rattle.std.specs.Simd.{first_chunks}
use Rattle.endian.specs.Numbers.{little, number_at}
use Rattle.endian.proofs.NumberLaws.{number_of_two}
use Rattle.hip_format.specs.Format.{word_sum}

-- the number of two bytes at a place
two_bytes : (bytes : List ℕ) (at : ℕ) → number_at bytes at 2 ≡ get_or bytes at 0 + 256 * get_or bytes (at + 1) 0
unfolding little
two_bytes bytes at = sym (number_of_two bytes at (get_or bytes at 0 + 256 * get_or bytes (at + 1) 0) (omega arith))

-- the sum of the words from a place on is the word there and the sum of those after it
sum_more : (bytes : List ℕ) (at : ℕ) → at + 1 < length bytes → word_sum (drop at bytes) ≡ number_at bytes at 2 + word_sum (drop (at + 2) bytes)
unfolding word_sum
sum_more bytes at inside =
    let two : at + 2 ≡ suc (at + 1) = omega arith in
    rw (drop-cons bytes at 0 (omega arith), ← add-one, drop-cons bytes (at + 1) 0 (omega arith), two_bytes bytes at, two)

-- one byte or none has no word
sum_none : (bytes : List ℕ) → length bytes ≤ 1 → word_sum bytes ≡ 0
unfolding word_sum
sum_none [] few = refl
sum_none (one ∷ []) few = refl
sum_none (one ∷ two ∷ bytes) few = absurd (omega arith)

-- the pair of an index among those of some bytes
pair_at : (k i : ℕ) (bytes : List ℕ) → i < k → get_or (first_chunks 2 k bytes) i [] ≡ take 2 (drop (2 * i) bytes)
pair_at zero i bytes more = absurd (omega arith)
pair_at (suc k) zero bytes more = refl
pair_at (suc k) (suc i) bytes more =
    let place : 2 + 2 * i ≡ 2 * suc i = omega arith in
    pair_at k i (drop 2 bytes) (omega arith) ∙ ap (take 2) (drop-drop (2 * i) 2 bytes ∙ ap (λ (n : ℕ). drop n bytes) place)

byte_at_pair : (bytes : List ℕ) (at j : ℕ) → j < 2 → get_or (take 2 (drop at bytes)) j 0 ≡ get_or bytes (at + j) 0
byte_at_pair bytes at j small = get_or-take 2 (drop at bytes) j 0 small ∙ get_or-drop at bytes j 0

-- a turn of the loop over the pairs
pub sum_next : (bytes : List ℕ) (pairs : List (List ℕ)) (i sum word : ℕ) → pairs ≡ first_chunks 2 (length bytes / 2) bytes → i < length bytes / 2 →
    word ≡ get_or (get_or pairs i []) 0 0 + get_or (get_or pairs i []) 1 0 * 256 → (sum + word_sum (drop (2 * i) bytes)) % 65536 ≡ word_sum bytes % 65536 →
    ((sum + word) % 65536 + word_sum (drop (2 * (i + 1)) bytes)) % 65536 ≡ word_sum bytes % 65536
sum_next bytes pairs i sum word e more ew before =
    let pair : get_or pairs i [] ≡ take 2 (drop (2 * i) bytes) = ap (λ (l : List (List ℕ)). get_or l i []) e ∙ pair_at (length bytes / 2) i bytes more in
    let word_is : word ≡ get_or bytes (2 * i + 0) 0 + get_or bytes (2 * i + 1) 0 * 256 = ew ∙ (rw (pair, byte_at_pair bytes (2 * i) 0 (omega arith), byte_at_pair bytes (2 * i) 1 (omega arith))) in
    let place : 2 * (i + 1) ≡ 2 * i + 2 = omega arith in
    let same : 2 * i + 0 ≡ 2 * i = omega arith in
    let word_there : word ≡ number_at bytes (2 * i) 2 = omega (arith, word_is, two_bytes bytes (2 * i), ap (λ (n : ℕ). get_or bytes n 0) same) in
    let rest : word_sum (drop (2 * i) bytes) ≡ number_at bytes (2 * i) 2 + word_sum (drop (2 * i + 2) bytes) = sum_more bytes (2 * i) (omega arith) in
    rw place (omega (arith, word_there, rest, before))

-- past the last pair there is no word
pub sum_whole : (bytes : List ℕ) (i sum : ℕ) → length bytes / 2 ≤ i → sum < 65536 → (sum + word_sum (drop (2 * i) bytes)) % 65536 ≡ word_sum bytes % 65536 → sum ≡ word_sum bytes % 65536
sum_whole bytes i sum past small all =
    let none : word_sum (drop (2 * i) bytes) ≡ 0 = sum_none (drop (2 * i) bytes) (rw (length-drop (2 * i) bytes) (omega arith)) in
    omega (arith, none, all)
