-- Laws of what holds below a number: from the test over all to each number, and back.
use Prim.Native.Nat.{ℕ, zero, suc, ◌+◌, ◌≤◌, ◌<◌}
use mathlib.Core.Path.{◌≡◌, refl, ◌∙◌}
use mathlib.Core.Bool.{Bool, true, false, not, false≢true}
use native.Mathlib.Decide.{le_ind}
use native.Mathlib.Nat.{add-zero}
use native.Mathlib.Omega.{arith}
use lib.Dec.{ltb}
use borrow.Author.Tests.{ltb-true, ltb-false, not-true, not-false}
use Rattle.interface.specs.Basics.{all_below, any_below, count_below, lowest}
use Rattle.interface.proofs.Basics.BoolLaws.{cases, not_both, and_left, and_right, both, or_left, or_right, or_not_right}

-- a number below a successor is below the number or is it
pub below_suc : {C : Type 0} (i n : ℕ) → i < suc n → (i < n → C) → (i ≡ n → C) → C
below_suc i n h f g =
    cases (ltb i n) (λ (t : ltb i n ≡ true). f (omega (arith, ltb-true i n t)))
    (λ (t : ltb i n ≡ false). g (omega (arith, ltb-false i n t)))

pub all_below_at : (n : ℕ) (test : ℕ → Bool) → all_below n test ≡ true → (i : ℕ) → i < n → test i ≡ true
unfolding all_below
all_below_at zero test h i l = absurd (omega arith)
all_below_at (suc n) test h i l =
    below_suc i n l (λ (b : i < n). all_below_at n test (and_left (all_below n test) (test n) h) i b)
    (λ (e : i ≡ n). rw e (and_right (all_below n test) (test n) h))

pub all_below_lem : (n : ℕ) (test : ℕ → Bool) → ((i : ℕ) → i < n → test i ≡ true) → all_below n test ≡ true
unfolding all_below
all_below_lem zero test h = refl
all_below_lem (suc n) test h = both (all_below n test) (test n) (all_below_lem n test (λ i l. h i (omega arith))) (h n (omega arith))

-- some number below one passes a test, and back
pub any_below_at : (n : ℕ) (test : ℕ → Bool) → any_below n test ≡ true → (i : ℕ) × (i < n) × (test i ≡ true)
unfolding any_below
any_below_at zero test h = absurd (false≢true h)
any_below_at (suc n) test h =
    cases (test n) (λ (t : test n ≡ true). (n, omega arith, t))
    (λ (f : test n ≡ false). let (i, l, t) = any_below_at n test (or_not_right (any_below n test) (test n) h f) in (i, omega arith, t))

pub any_below_lem : (n : ℕ) (test : ℕ → Bool) (i : ℕ) → i < n → test i ≡ true → any_below n test ≡ true
unfolding any_below
any_below_lem zero test i l h = absurd (omega arith)
any_below_lem (suc n) test i l h =
    below_suc i n l (λ (b : i < n). or_left (any_below n test) (test n) (any_below_lem n test i b h))
    (λ (e : i ≡ n). or_right (any_below n test) (test n) (rw e at h))

-- tests that are the same below a number count the same
pub count_below_same : (n : ℕ) (f g : ℕ → Bool) → ((i : ℕ) → i < n → f i ≡ g i) → count_below n f ≡ count_below n g
unfolding count_below
count_below_same zero f g h = refl
count_below_same (suc n) f g h = rw (count_below_same n f g (λ i l. h i (omega arith)), h n (omega arith))

-- a test that fails from a number on holds of none there
pub count_below_none : (n m : ℕ) (test : ℕ → Bool) → n ≤ m → ((i : ℕ) → n ≤ i → i < m → test i ≡ false) → count_below m test ≡ count_below n test
unfolding count_below
count_below_none n m test l h =
    le_ind (λ (k : ℕ). ((i : ℕ) → n ≤ i → i < k → test i ≡ false) → count_below k test ≡ count_below n test) (λ g. refl)
    (λ k b ih g. rw (g k b (omega arith)) (add-zero (count_below k test) ∙ ih (λ i c d. g i c (omega arith)))) m l h

-- a test holds of more numbers below one than below a lower one that it holds of
pub count_below_past : (n : ℕ) (test : ℕ → Bool) (i : ℕ) → i < n → test i ≡ true → count_below i test < count_below n test
unfolding count_below
count_below_past n test i l h =
    le_ind (λ (k : ℕ). count_below i test < count_below k test) (rw h (omega arith)) (λ k b ih. omega arith) n l

-- where a test holds of more than some number of numbers below one, it holds of one that has just as many before it
pub count_below_reaches : (n : ℕ) (test : ℕ → Bool) (k : ℕ) → k < count_below n test → (i : ℕ) × (i < n) × (test i ≡ true) × (count_below i test ≡ k)
unfolding count_below
count_below_reaches zero test k h = absurd (omega arith)
count_below_reaches (suc n) test k h =
    cases (ltb k (count_below n test))
    (λ (t : ltb k (count_below n test) ≡ true).
    let (i, l, holds, e) = count_below_reaches n test k (ltb-true k (count_below n test) t) in
    (i, omega arith, holds, e))
    (λ (f : ltb k (count_below n test) ≡ false).
    let past : count_below n test ≤ k = ltb-false k (count_below n test) f in
    cases (test n) (λ (t : test n ≡ true). let more : k < count_below n test + 1 = rw t at h in (n, omega arith, t, omega arith))
    (λ (e : test n ≡ false). let same : k < count_below n test + 0 = rw e at h in absurd (omega arith)))

-- the lowest number that a test holds of: the test holds there, and fails below
pub lowest_holds : (n : ℕ) (test : ℕ → Bool) → lowest n test < n → test (lowest n test) ≡ true
unfolding lowest
lowest_holds zero test h = absurd (omega arith)
lowest_holds (suc n) test h =
    cases (ltb (lowest n test) n) (λ (t : ltb (lowest n test) n ≡ true). rw t (lowest_holds n test (ltb-true (lowest n test) n t)))
    (λ (f : ltb (lowest n test) n ≡ false).
    cases (test n) (λ (t : test n ≡ true). rw (f, t) t) (λ (e : test n ≡ false). let l : suc n < suc n = rw (f, e) at h in absurd (omega arith)))

pub below_lowest : (n : ℕ) (test : ℕ → Bool) (i : ℕ) → i < lowest n test → test i ≡ false
unfolding lowest
below_lowest zero test i h = absurd (omega arith)
below_lowest (suc n) test i h =
    cases (ltb (lowest n test) n) (λ (t : ltb (lowest n test) n ≡ true). below_lowest n test i (rw t at h))
    (λ (f : ltb (lowest n test) n ≡ false).
    let past : n ≤ lowest n test = ltb-false (lowest n test) n f in
    cases (test n) (λ (t : test n ≡ true). let l : i < n = rw (f, t) at h in below_lowest n test i (omega arith))
    (λ (e : test n ≡ false).
    below_suc i n (rw (f, e) at h) (λ (l : i < n). below_lowest n test i (omega arith)) (λ (q : i ≡ n). rw q e)))

-- a test's failures: the lowest is one, and below it the test holds; where none is below the bound, the test holds of all
module _ (n : ℕ) (test : ℕ → Bool) where
  abbrev pub lowest_failure : ℕ
  lowest_failure = lowest n (λ i. not (test i))

  pub failure_fails : lowest_failure < n → test lowest_failure ≡ false
  failure_fails l = not-true (test lowest_failure) (lowest_holds n (λ i. not (test i)) l)

  pub below_failure : (i : ℕ) → i < lowest_failure → test i ≡ true
  below_failure i l = not-false (test i) (below_lowest n (λ i. not (test i)) i l)

  pub no_failure : ltb lowest_failure n ≡ false → (i : ℕ) → i < n → test i ≡ true
  no_failure f i l = below_failure i (omega (arith, ltb-false lowest_failure n f))

  pub all_hold : ((i : ℕ) → i < n → test i ≡ true) → ltb lowest_failure n ≡ false
  all_hold h =
      cases (ltb lowest_failure n)
      (λ (t : ltb lowest_failure n ≡ true).
      let l = ltb-true lowest_failure n t in not_both (test lowest_failure) (h lowest_failure l) (failure_fails l))
      (λ (f : ltb lowest_failure n ≡ false). f)

  -- a failure with none below it is the lowest
  pub failure_at : (k : ℕ) → k < n → test k ≡ false → ((i : ℕ) → i < k → test i ≡ true) → lowest_failure ≡ k
  failure_at k l fails holds =
      cases (ltb lowest_failure k)
      (λ (t : ltb lowest_failure k ≡ true).
      let b = ltb-true lowest_failure k t in not_both (test lowest_failure) (holds lowest_failure b) (failure_fails (omega arith)))
      (λ (f : ltb lowest_failure k ≡ false).
      let past = ltb-false lowest_failure k f in
      cases (ltb k lowest_failure) (λ (t : ltb k lowest_failure ≡ true). not_both (test k) (below_failure k (ltb-true k lowest_failure t)) fails)
      (λ (g : ltb k lowest_failure ≡ false). omega (arith, ltb-false k lowest_failure g)))

  -- a test that does not hold of all fails somewhere
  pub all_below_fails : all_below n test ≡ false → (i : ℕ) × (i < n) × (test i ≡ false)
  all_below_fails h =
      cases (ltb lowest_failure n)
      (λ (t : ltb lowest_failure n ≡ true). let l = ltb-true lowest_failure n t in (lowest_failure, l, failure_fails l))
      (λ (f : ltb lowest_failure n ≡ false). not_both (all_below n test) (all_below_lem n test (no_failure f)) h)
