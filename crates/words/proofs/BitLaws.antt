-- Laws of permissions as the set bits of a number. The first two go through the numbers from the lowest bit on, and the others follow from them.
use Prim.Native.Nat.{ℕ, ◌-◌, ◌*◌, ◌+◌, ◌/◌, ◌%◌, ◌^◌, ◌≤◌, ◌<◌, min}
use mathlib.Core.Path.{◌≡◌, refl, sym, ap, ◌∙◌}
use mathlib.Core.Bool.{true}
use native.Mathlib.Nat.{mod-eq_of_lt, sub_self}
use native.Mathlib.Omega.{arith}
use lib.Arith.{bin_ind}
use lib.Bits.{bit_and, and_step, and_shr, and_comm, and_self, and_le_l, and_le_r, and_mask}
use borrow.Author.Tests.{eqb-true, eq-eqb}
use Rattle.words.specs.Permissions.{delegated, revoked, within}

pub and_assoc : (a b c : ℕ) → bit_and (bit_and a b) c ≡ bit_and a (bit_and b c)
and_assoc =
    bin_ind (λ (a : ℕ). (b c : ℕ) → bit_and (bit_and a b) c ≡ bit_and a (bit_and b c)) (λ b c. refl)
    (λ a ih b c.
    let high : bit_and (bit_and a b / 2) (c / 2) ≡ bit_and (a / 2) (bit_and b c / 2) = rw (and_shr a b 1, and_shr b c 1) (ih (b / 2) (c / 2)) in
    omega (arith, and_step (bit_and a b) c, and_step a (bit_and b c), and_step a b, and_step b c))

and_low : (a b : ℕ) → bit_and a b % 2 ≡ min (a % 2) (b % 2)
and_low a b = omega (arith, and_step a b)

revoked_step : (a m : ℕ) → revoked a m ≡ revoked (a / 2) (m / 2) * 2 + (a % 2 - min (a % 2) (m % 2))
revoked_step a m = omega (arith, and_step a m, and_le_l (a / 2) (m / 2))

revoked_half : (a m : ℕ) → revoked a m / 2 ≡ revoked (a / 2) (m / 2)
revoked_half a m = omega (arith, revoked_step a m)

revoked_low : (a m : ℕ) → revoked a m % 2 ≡ a % 2 - min (a % 2) (m % 2)
revoked_low a m = omega (arith, revoked_step a m)

-- delegation of what a revocation leaves is revocation of what a delegation gives
pub delegated_revoked : (a m n : ℕ) → delegated (revoked a m) n ≡ revoked (delegated a n) m
delegated_revoked =
    bin_ind (λ (a : ℕ). (m n : ℕ) → delegated (revoked a m) n ≡ revoked (delegated a n) m) (λ m n. refl)
    (λ a ih m n.
    let high : bit_and (revoked a m / 2) (n / 2) ≡ revoked (bit_and a n / 2) (m / 2) = rw (revoked_half a m, and_shr a n 1) (ih (m / 2) (n / 2)) in
    let low : min (revoked a m % 2) (n % 2) ≡ bit_and a n % 2 - min (bit_and a n % 2) (m % 2) = rw (revoked_low a m, and_low a n) (omega arith) in
    rw (and_step (revoked a m) n, revoked_step (bit_and a n) m, high, low))

-- inclusion is an order

pub within_itself : (a : ℕ) → within a a ≡ true
within_itself a = eq-eqb (bit_and a a) a (and_self a)

pub within_both : (a b : ℕ) → within a b ≡ true → within b a ≡ true → a ≡ b
within_both a b h k = sym (eqb-true (bit_and a b) a h) ∙ and_comm a b ∙ eqb-true (bit_and b a) b k

pub within_across : (a b c : ℕ) → within a b ≡ true → within b c ≡ true → within a c ≡ true
within_across a b c h k =
    let ab : bit_and a b ≡ a = eqb-true (bit_and a b) a h in
    let bc : bit_and b c ≡ b = eqb-true (bit_and b c) b k in
    eq-eqb (bit_and a c) a (cc (and_assoc a b c))

pub within_le : (a b : ℕ) → within a b ≡ true → a ≤ b
within_le a b h = omega (arith, and_le_r a b, eqb-true (bit_and a b) a h)

-- what delegation gives is the greatest part of both the source and the mask

pub delegated_within_mask : (a m : ℕ) → within (delegated a m) m ≡ true
delegated_within_mask a m = eq-eqb (bit_and (bit_and a m) m) (bit_and a m) (and_assoc a m m ∙ ap (bit_and a) (and_self m))

pub delegated_within_source : (a m : ℕ) → within (delegated a m) a ≡ true
delegated_within_source a m = rw (and_comm a m) (delegated_within_mask m a)

pub within_delegated : (a b m : ℕ) → within a b ≡ true → within a m ≡ true → within a (delegated b m) ≡ true
within_delegated a b m h k =
    let ab : bit_and a b ≡ a = eqb-true (bit_and a b) a h in
    let am : bit_and a m ≡ a = eqb-true (bit_and a m) a k in
    eq-eqb (bit_and a (bit_and b m)) a (cc (and_assoc a b m))

pub delegated_respects : (a b m : ℕ) → within a b ≡ true → within (delegated a m) (delegated b m) ≡ true
delegated_respects a b m h =
    within_delegated (delegated a m) b m (within_across (delegated a m) a b (delegated_within_source a m) h) (delegated_within_mask a m)

-- what revocation leaves is the greatest part of the source that is apart from the mask

pub revoked_within : (a m : ℕ) → within (revoked a m) a ≡ true
revoked_within a m = eq-eqb (bit_and (revoked a m) a) (revoked a m) (delegated_revoked a m a ∙ ap (λ (x : ℕ). revoked x m) (and_self a))

pub revoked_apart : (a m : ℕ) → delegated (revoked a m) m ≡ 0
revoked_apart a m =
    let same : bit_and (bit_and a m) m ≡ bit_and a m = eqb-true (bit_and (bit_and a m) m) (bit_and a m) (delegated_within_mask a m) in
    delegated_revoked a m m ∙ rw same (sub_self (bit_and a m))

pub revoked_kept : (a m : ℕ) → delegated a m ≡ 0 → revoked a m ≡ a
revoked_kept a m h = omega arith

pub within_revoked : (a b m : ℕ) → within a b ≡ true → delegated a m ≡ 0 → within a (revoked b m) ≡ true
within_revoked a b m h k =
    let ab : bit_and a b ≡ a = eqb-true (bit_and a b) a h in
    eq-eqb (bit_and a (revoked b m)) a (cc (and_comm a (revoked b m), delegated_revoked b m a, and_comm a b, revoked_kept a m k))

pub revoked_respects : (a b m : ℕ) → within a b ≡ true → within (revoked a m) (revoked b m) ≡ true
revoked_respects a b m h =
    within_revoked (revoked a m) b m (within_across (revoked a m) a b (revoked_within a m) h) (revoked_apart a m)

-- the mask whose `k` low bits are set, and no other, includes each number of `k` bits

pub delegated_ones : (k a : ℕ) → a < 2 ^ k → delegated a (2 ^ k - 1) ≡ a
delegated_ones k a h = and_mask a k ∙ mod-eq_of_lt h

pub revoked_ones : (k a : ℕ) → a < 2 ^ k → revoked a (2 ^ k - 1) ≡ 0
revoked_ones k a h = rw (delegated_ones k a h) (sub_self a)
