-- Laws of a bit for each place: one is set and read back, and those of a range are set in turn.
use Prim.Native.Nat.{ℕ, zero, suc, ◌+◌, ◌-◌, ◌*◌, ◌/◌, ◌%◌, ◌^◌, ◌<◌, max}
use mathlib.Core.Path.{◌≡◌, refl, sym, ap, ◌∙◌}
use mathlib.Core.Bool.{Bool, true, false, ◌&&◌, ◌||◌, and-false, or-false}
use mathlib.Core.List.{List}
use native.Mathlib.Nat.{one-mul, div-eq_of_lt, zero-div, pow-suc}
use native.Mathlib.Omega.{arith}
use lib.Bits.{bit_or, or_step, or_shr}
use lib.Dec.{eqb, leb, ltb}
use lib.ListN.{length, set, replicate}
use lib.Pow.{pow-lt, pow-add, shl-shr, shl_exact}
use lib.Seq.{get_or-set_same, get_or-set_other}
use borrow.Author.Tests.{ltb-true, ltb-false, eqb-true, eqb-false, eq-eqb, ne_eqb, lt-ltb, le-ltb, leb-true, le-leb}
use Rattle.interface.specs.Basics.{word}
use Rattle.interface.specs.Effects.{among}
use Rattle.interface.proofs.Basics.BoolLaws.{cases}
use Rattle.marks.specs.PlaceBits.{word_bits, bit_at, SetIf, RangeToo}

-- the one bit of a power of 2
power_other : (k j : ℕ) → (j ≡ k → ⊥) → 2 ^ k / 2 ^ j % 2 ≡ 0
power_other k j other =
    cases (ltb k j)
    (λ (t : ltb k j ≡ true). rw (div-eq_of_lt (pow-lt (ltb-true k j t))))
    (λ (f : ltb k j ≡ false).
    let past = ltb-false k j f in
    let more = k - j - 1 in
    let split : k ≡ suc more + j = omega arith in
    rw (split, pow-add 2 (suc more) j, shl-shr (2 ^ suc more) j, pow-suc 2 more) (omega arith))

power_same : (k : ℕ) → 2 ^ k / 2 ^ k % 2 ≡ 1
power_same k = let whole : 2 ^ k / 2 ^ k ≡ 1 = rw (one-mul (2 ^ k)) at (shl-shr 1 k) in omega (arith, whole)

-- a number with one more bit set
or_bit : (n k j : ℕ) → eqb (bit_or n (2 ^ k) / 2 ^ j % 2) 1 ≡ (eqb j k || eqb (n / 2 ^ j % 2) 1)
or_bit n k j =
    let high = 2 ^ k / 2 ^ j in
    let low : bit_or n (2 ^ k) / 2 ^ j % 2 ≡ max (n / 2 ^ j % 2) (high % 2) = rw (or_shr n (2 ^ k) j) (omega (arith, or_step (n / 2 ^ j) high)) in
    cases (eqb j k)
    (λ (t : eqb j k ≡ true).
    let one : high % 2 ≡ 1 = rw (eqb-true j k t) (power_same k) in
    let here : bit_or n (2 ^ k) / 2 ^ j % 2 ≡ 1 = omega (arith, low, one) in
    rw (t, here))
    (λ (f : eqb j k ≡ false).
    let none : high % 2 ≡ 0 = power_other k j (eqb-false j k f) in
    let same : bit_or n (2 ^ k) / 2 ^ j % 2 ≡ n / 2 ^ j % 2 = omega (arith, low, none) in
    rw (f, same))

-- a word written with one more bit, and no word
pub set_one : {asked : Bool} (words : List ℕ) (number : ℕ) → asked ≡ true → number / word_bits < length words →
    SetIf asked words number (set words (number / word_bits) (bit_or (word words (number / word_bits)) (1 * 2 ^ (number % word_bits) % 2 ^ word_bits)))
unfolding bit_at
set_one words number is_asked fits =
    let at = number / word_bits in
    let value = bit_or (word words at) (2 ^ (number % word_bits)) in
    let shifted : 1 * 2 ^ (number % word_bits) % 2 ^ word_bits ≡ 2 ^ (number % word_bits) =
    shl_exact 1 (number % word_bits) word_bits (omega arith) (omega arith) ∙ one-mul (2 ^ (number % word_bits)) in
    rw (is_asked, shifted)
    (record {
      bits = λ other.
          cases (eqb (other / word_bits) at)
          (λ (t : eqb (other / word_bits) at ≡ true).
          let same = eqb-true (other / word_bits) at t in
          let test : eqb (other % word_bits) (number % word_bits) ≡ eqb other number =
          cases (eqb other number) (λ (u : eqb other number ≡ true). rw (u, eqb-true other number u) (eq-eqb (number % word_bits) (number % word_bits) refl))
          (λ (g : eqb other number ≡ false).
          let differ = eqb-false other number g in
          rw g (ne_eqb (other % word_bits) (number % word_bits) (λ (e : other % word_bits ≡ number % word_bits). differ (omega arith)))) in
          rw (same, get_or-set_same words at value 0 fits, or_bit (word words at) (number % word_bits) (other % word_bits), test))
          (λ (f : eqb (other / word_bits) at ≡ false).
          let apart = eqb-false (other / word_bits) at f in
          rw (get_or-set_other words at (other / word_bits) value 0 apart, ne_eqb other number (λ (e : other ≡ number). apart (ap (λ (n : ℕ). n / word_bits) e))));
    })

pub set_none : {asked : Bool} (marks : List ℕ) (number : ℕ) → asked ≡ false → SetIf asked marks number marks
set_none marks number not_asked = record { bits = λ other. rw not_asked }

-- no bit of words that are 0 is set
no_word : (n i : ℕ) → word (replicate n 0) i ≡ 0
no_word zero i = refl
no_word (suc n) zero = refl
no_word (suc n) (suc i) = no_word n i

pub blank_bit : (n number : ℕ) → bit_at (replicate n 0) number ≡ false
unfolding bit_at
blank_bit n number = rw (no_word n (number / word_bits), zero-div (2 ^ (number % word_bits)))

-- one more of some places
among_more : (first offset p : ℕ) → among first (offset + 1) p ≡ (eqb p (first + offset) || among first offset p)
among_more first offset p =
    cases (eqb p (first + offset))
    (λ (t : eqb p (first + offset) ≡ true).
    let e = eqb-true p (first + offset) t in
    rw (t, le-leb first p (omega arith), lt-ltb p (first + (offset + 1)) (omega arith)))
    (λ (f : eqb p (first + offset) ≡ false).
    let differ = eqb-false p (first + offset) f in
    let same : ltb p (first + (offset + 1)) ≡ ltb p (first + offset) =
    cases (ltb p (first + offset)) (λ (b : ltb p (first + offset) ≡ true). let less = ltb-true p (first + offset) b in rw b (lt-ltb p (first + (offset + 1)) (omega arith)))
    (λ (g : ltb p (first + offset) ≡ false). let from = ltb-false p (first + offset) g in rw g (le-ltb p (first + (offset + 1)) (omega arith))) in
    rw (f, same))

range_step : (asked here before inside : Bool) → ((asked && here) || (before || (asked && inside))) ≡ (before || (asked && (here || inside)))
range_step false here before inside = refl
range_step true true true inside = refl
range_step true true false inside = refl
range_step true false before inside = refl

-- the places of a range marked in turn
module _ (asked : Bool) (before : List ℕ) (first : ℕ) where
  pub range_none : RangeToo asked before first 0 before
  range_none =
      record {
        bits = λ p.
            let none : among first 0 p ≡ false =
            cases (leb first p) (λ (t : leb first p ≡ true). let from = leb-true first p t in rw (t, le-ltb p (first + 0) (omega arith)))
            (λ (f : leb first p ≡ false). rw f) in
            rw (none, and-false asked) (sym (or-false (bit_at before p)));
      }

  pub range_more : (offset : ℕ) {now after : List ℕ} {place : ℕ} → RangeToo asked before first offset now → place ≡ first + offset → SetIf asked now place after →
      RangeToo asked before first (offset + 1) after
  range_more offset so_far is_place made =
      record {
        bits = λ p.
            rw (made.bits p, so_far.bits p, is_place, among_more first offset p)
            (range_step asked (eqb p (first + offset)) (bit_at before p) (among first offset p));
      }

  pub range_all : (offset size : ℕ) {now : List ℕ} → RangeToo asked before first offset now → offset ≡ size → RangeToo asked before first size now
  range_all offset size so_far all = rw (← all) so_far
