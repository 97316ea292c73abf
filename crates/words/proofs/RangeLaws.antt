-- Laws of ranges: a base is aligned where the range's size divides it, which its trailing zero bits tell, and the size divides that of each range of larger order.
use Prim.Native.Nat.{ℕ, zero, suc, ◌+◌, ◌-◌, ◌*◌, ◌/◌, ◌%◌, ◌^◌, ◌≤◌, ◌<◌, ◌∣◌}
use mathlib.Core.Path.{◌≡◌, refl, sym, subst}
use mathlib.Core.Bool.{Bool, true, false}
use mathlib.Core.Logic.{◌↔◌}
use native.Mathlib.Nat.{lt_of_not-le, le_of_lt, le-add_right, le_of_dvd, add-sub_of_le, mod-lt, mod-le, mod-mod, div-add-mod', eq-sub_of_add-eq, dvd-mul_left, dvd-mul_right, dvd_trans, dvd-zero, dvd-add, dvd-sub, mod-eq-zero_of_dvd, dvd_of_mod-eq-zero}
use native.Mathlib.Omega.{arith}
use native.Mathlib.Numerals.{add-one}
use lib.Count.{count_trailing_zeros, under, trailing_le}
use lib.Dec.{leb}
use lib.Pow.{pow_pos, pow_mono, pow-add, mod-pow-add}
use borrow.Author.Tests.{leb-true, leb-false, eqb-true, eq-eqb, ne_eqb}
use Rattle.words.specs.Ranges.{aligned, rounded, raised}

pub aligned_divides : (order base : ℕ) → (aligned order base ≡ true) ↔ (2 ^ order ∣ base)
aligned_divides order base =
    (λ h. dvd_of_mod-eq-zero (2 ^ order) (eqb-true (base % 2 ^ order) 0 h), λ h. eq-eqb (base % 2 ^ order) 0 (mod-eq-zero_of_dvd (2 ^ order) h))

pub zero_aligned : (order : ℕ) → aligned order 0 ≡ true
zero_aligned order = (aligned_divides order 0).1 (dvd-zero (2 ^ order))

-- a number's remainder by a power of 2, from that of its half
halved : (order base : ℕ) → base % 2 ^ suc order ≡ base / 2 % 2 ^ order * 2 + base % 2
halved order base = rw (← add-one order) (mod-pow-add base order 1)

-- for every order up to the width: at least that many trailing zero bits, exactly where the remainder by 2 ^ order is 0
pub trailing_zeros : (width order base : ℕ) → order ≤ width → (order ≤ count_trailing_zeros width base) ↔ (base % 2 ^ order ≡ 0)
unfolding count_trailing_zeros
trailing_zeros width zero base h = (λ l. omega arith, λ e. omega arith)
trailing_zeros zero (suc order) base h = absurd (omega arith)
trailing_zeros (suc width) (suc order) base h = go (base % 2) refl (trailing_zeros width order (base / 2) (omega arith))
  where
    go : (low : ℕ) → base % 2 ≡ low → (order ≤ count_trailing_zeros width (base / 2)) ↔ (base / 2 % 2 ^ order ≡ 0) →
        (suc order ≤ under low (count_trailing_zeros width (base / 2))) ↔ (base % 2 ^ suc order ≡ 0)
    go zero even half = (λ l. omega (arith, halved order base, half.0 (omega arith)), λ e. omega (arith, half.1 (omega (arith, halved order base))))
    go (suc low) odd half = (λ l. absurd (omega arith), λ e. absurd (omega (arith, halved order base)))

pub aligned_zeros : (width order base : ℕ) → order ≤ width → (aligned order base ≡ true) ↔ (order ≤ count_trailing_zeros width base)
aligned_zeros width order base h =
    let told = trailing_zeros width order base h in
    (λ a. told.1 (eqb-true (base % 2 ^ order) 0 a), λ l. eq-eqb (base % 2 ^ order) 0 (told.0 l))

-- they tell it for every order where the base is below 2 ^ width and not 0, since from the width on 2 ^ order is above it and does not divide it
pub others_aligned : (width order base : ℕ) → 0 < base → base < 2 ^ width → leb order (count_trailing_zeros width base) ≡ aligned order base
others_aligned width order base positive fits = go (leb order (count_trailing_zeros width base)) refl
  where
    below_width : base % 2 ^ order ≡ 0 → order < width
    below_width d =
        lt_of_not-le (λ (above : width ≤ order).
        let divisor : 2 ^ order ≤ base = le_of_dvd positive (dvd_of_mod-eq-zero (2 ^ order) d) in
        let larger : 2 ^ width ≤ 2 ^ order = pow_mono above in
        omega arith)

    go : (enough : Bool) → leb order (count_trailing_zeros width base) ≡ enough → enough ≡ aligned order base
    go true e =
        let many : order ≤ count_trailing_zeros width base = leb-true order (count_trailing_zeros width base) e in
        sym (eq-eqb (base % 2 ^ order) 0 ((trailing_zeros width order base (omega (arith, trailing_le width base))).0 many))
    go false e =
        let few : count_trailing_zeros width base < order = leb-false order (count_trailing_zeros width base) e in
        sym (ne_eqb (base % 2 ^ order) 0 (λ (d : base % 2 ^ order ≡ 0).
        let many : order ≤ count_trailing_zeros width base = (trailing_zeros width order base (le_of_lt (below_width d))).1 d in
        omega arith))

pub size_divides : (smaller order : ℕ) → smaller ≤ order → 2 ^ smaller ∣ 2 ^ order
size_divides smaller order h =
    subst (λ (n : ℕ). 2 ^ smaller ∣ 2 ^ n) (add-sub_of_le h) (rw pow-add (dvd-mul_right (2 ^ smaller) (2 ^ (order - smaller))))

pub rounded_divides : (order number : ℕ) → 2 ^ order ∣ rounded order number
rounded_divides order number =
    rw (eq-sub_of_add-eq (number / 2 ^ order * 2 ^ order) (number % 2 ^ order) (div-add-mod' number (2 ^ order)))
    at (dvd-mul_left (2 ^ order) (number / 2 ^ order))

-- two multiples of a number are at least that number apart
pub multiples_apart : (n : ℕ) {a b : ℕ} → n ∣ a → n ∣ b → a < b → a + n ≤ b
multiples_apart n {a} {b} ha hb h = let apart : n ≤ b - a = le_of_dvd (omega arith) (dvd-sub n hb ha) in omega arith

-- a range whose size divides its base, and that begins below the size of a larger one, ends there at the latest
pub range_ends : (greatest order base : ℕ) → order ≤ greatest → 2 ^ order ∣ base → base < 2 ^ greatest → base + 2 ^ order ≤ 2 ^ greatest
range_ends greatest order base h d b = multiples_apart (2 ^ order) d (size_divides order greatest h) b

-- so an aligned one lies there whole
pub stays_inside : (greatest order base offset : ℕ) → order ≤ greatest → aligned order base ≡ true → base < 2 ^ greatest → offset < 2 ^ order →
    base + offset < 2 ^ greatest
stays_inside greatest order base offset h a b o =
    omega (arith, range_ends greatest order base h ((aligned_divides order base).0 a) b)

pub equal_orders : (order hotspot base : ℕ) → raised order order hotspot base ≡ base
equal_orders order hotspot base = omega (arith, mod-mod hotspot (2 ^ order))

pub keeps_aligned : (order smaller hotspot base : ℕ) → smaller ≤ order → aligned order base ≡ true → aligned smaller (raised order smaller hotspot base) ≡ true
keeps_aligned order smaller hotspot base h a =
    (aligned_divides smaller (raised order smaller hotspot base)).1
    (dvd-add (2 ^ smaller)
    (dvd_trans (2 ^ smaller) (size_divides smaller order h) ((aligned_divides order base).0 a))
    (rounded_divides smaller (hotspot % 2 ^ order)))

pub starts_inside : (order smaller hotspot base : ℕ) → base ≤ raised order smaller hotspot base
starts_inside order smaller hotspot base = le-add_right base (rounded smaller (hotspot % 2 ^ order))

pub ends_inside : (order smaller hotspot base : ℕ) → smaller ≤ order → raised order smaller hotspot base + 2 ^ smaller ≤ base + 2 ^ order
ends_inside order smaller hotspot base h =
    let below : hotspot % 2 ^ order < 2 ^ order = mod-lt hotspot (pow_pos order) in
    omega (arith, range_ends order smaller (rounded smaller (hotspot % 2 ^ order)) h (rounded_divides smaller (hotspot % 2 ^ order)) (omega arith))

pub holds_hotspot : (order smaller hotspot base : ℕ) →
    (raised order smaller hotspot base ≤ base + hotspot % 2 ^ order) × (base + hotspot % 2 ^ order < raised order smaller hotspot base + 2 ^ smaller)
holds_hotspot order smaller hotspot base =
    let below : hotspot % 2 ^ order % 2 ^ smaller < 2 ^ smaller = mod-lt (hotspot % 2 ^ order) (pow_pos smaller) in
    let part : hotspot % 2 ^ order % 2 ^ smaller ≤ hotspot % 2 ^ order = mod-le (hotspot % 2 ^ order) (2 ^ smaller) in
    (omega arith, omega arith)
