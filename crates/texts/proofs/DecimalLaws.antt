-- A number in decimal has as many digits as its width says, which are the fewest that hold it.
use Prim.Native.Nat.{ℕ, zero, suc, ◌-◌, ◌/◌, ◌^◌, ◌≤◌, suc-le-suc, ◌<◌}
use mathlib.Core.Path.{◌≡◌, refl, sym, ap, ◌∙◌}
use mathlib.Core.Bool.{true, false}
use mathlib.Core.List.{List}
use native.Mathlib.Nat.{pow-suc, one-le-pow}
use native.Mathlib.Numerals.{add-one}
use native.Mathlib.Omega.{arith}
use lib.Dec.{ltb}
use lib.ListN.{length, length-append}
use borrow.Author.Tests.{lt-ltb, le-ltb}
use Rattle.io.specs.Digits.{last_digits, IsDigitCount}
use Rattle.interface.specs.Journal.{width, decimal}
use Rattle.interface.proofs.Basics.BoolLaws.{cases}

-- there are as many digits as were asked for
pub length_digits : (base count number : ℕ) → length (last_digits base count number) ≡ count
length_digits base zero number = refl
length_digits base (suc count) number = simp length-append (rw (length_digits base count (number / base), add-one))

-- a number below a power of ten has at most so many digits
width_at_most : (most k number : ℕ) → number < 10 ^ suc k → width most number ≤ suc k
unfolding width
width_at_most zero k number l = omega arith
width_at_most (suc most) zero number l = rw (lt-ltb number 10 l) (omega arith)
width_at_most (suc most) (suc k) number l =
    cases (ltb number 10)
    (λ (t : ltb number 10 ≡ true). rw t (omega arith))
    (λ (f : ltb number 10 ≡ false). rw f (suc-le-suc (width_at_most most k (number / 10) (omega (arith, pow-suc 10 (suc k))))))

-- and so has its text
pub decimal_at_most : (k number : ℕ) → number < 10 ^ suc k → length (decimal number) ≤ suc k
decimal_at_most k number l = rw (length_digits 10 (width 20 number) number) (width_at_most 20 k number l)

-- a number of two digits or more is at least a power of ten
at_least : (number k : ℕ) → IsDigitCount 10 1 number (suc (suc k)) → 10 ^ suc k ≤ number
at_least number k f =
    let back : suc (suc k) - 1 ≡ suc k = omega arith in
    rw back at (f.2 (omega arith))

-- a number below ten has one digit
one_digit : (number count : ℕ) → number < 10 → IsDigitCount 10 1 number count → count ≡ 1
one_digit number zero l f = absurd (omega arith)
one_digit number (suc zero) l f = refl
one_digit number (suc (suc k)) l f =
    absurd (omega (arith, at_least number k f, pow-suc 10 k, one-le-pow k 10 (omega arith)))

-- a number of two digits or more has one more than its tenth
tenth : (number k : ℕ) → IsDigitCount 10 1 number (suc (suc k)) → IsDigitCount 10 1 (number / 10) (suc k)
tenth number k f =
    let back : suc k - 1 ≡ k = omega arith in (
      omega arith,
      omega (arith, f.1, pow-suc 10 (suc k)),
      λ more. rw back (omega (arith, at_least number k f, pow-suc 10 k)),
    )

-- the fewest digits that hold a number are its width
fewest_is_width : (m number count : ℕ) → number < 10 ^ suc m → IsDigitCount 10 1 number count → count ≡ width (suc m) number
unfolding width
fewest_is_width zero number count l f = rw (lt-ltb number 10 l) (one_digit number count l f)
fewest_is_width (suc m) number zero l f = absurd (omega arith)
fewest_is_width (suc m) number (suc zero) l f = rw (lt-ltb number 10 f.1)
fewest_is_width (suc m) number (suc (suc k)) l f =
    let large : 10 ≤ number = omega (arith, at_least number k f, pow-suc 10 k, one-le-pow k 10 (omega arith)) in
    rw (le-ltb number 10 large) (ap suc (fewest_is_width m (number / 10) (suc k) (omega (arith, pow-suc 10 (suc m))) (tenth number k f)))

-- the fewest digits that hold a number of 64 bits are the number in decimal
pub fewest_is_decimal : (number count : ℕ) (text : List ℕ) → number < 2 ^ 64 → IsDigitCount 10 1 number count → text ≡ last_digits 10 count number → text ≡ decimal number
fewest_is_decimal number count text l f e =
    let same : count ≡ width 20 number = fewest_is_width 19 number count (omega arith) f in
    e ∙ ap (λ (k : ℕ). last_digits 10 k number) same

-- and are as many as its text has
pub fewest_is_length : (number count : ℕ) → number < 2 ^ 64 → IsDigitCount 10 1 number count → count ≡ length (decimal number)
fewest_is_length number count l f = fewest_is_width 19 number count (omega arith) f ∙ sym (length_digits 10 (width 20 number) number)
