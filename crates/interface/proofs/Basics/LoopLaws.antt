-- Loops over the numbers below one: what a test of all of them, a test of some, a count and the lowest that a test holds of come to, number by number.
use Prim.Native.Nat.{ℕ, zero, suc, ◌+◌, ◌≤◌, ◌<◌}
use mathlib.Core.Path.{◌≡◌, refl, sym, ◌∙◌}
use mathlib.Core.Bool.{Bool, true, false, not, ◌&&◌, ◌||◌}
use native.Mathlib.Decide.{le_ind}
use native.Mathlib.Nat.{add-zero}
use native.Mathlib.Numerals.{add-one}
use native.Mathlib.Omega.{arith}
use borrow.Author.Tests.{lt-ltb, le-ltb, not-true, not-false}
use Rattle.interface.specs.Basics.{all_below, any_below, count_below, lowest}
use Rattle.interface.proofs.Basics.BoolLaws.{cases, not_both, both}
use Rattle.interface.proofs.Basics.BelowLaws.{all_below_at, all_below_lem}

-- a test that a call answered, by what the code made of the answer
pub answered_yes : (answer test : Bool) → answer ≡ test → not answer ≡ false → test ≡ true
answered_yes answer test e f = sym e ∙ not-false answer f

pub answered_no : {C : Type 0} (answer test : Bool) → answer ≡ test → not answer ≡ true → test ≡ true → C
answered_no answer test e f t = not_both test t (sym e ∙ not-true answer f)

module _ (test : ℕ → Bool) where
  -- a test of all: it holds below 0, below the next number where it holds of this one, and fails where it fails of one
  pub all_below_none : all_below 0 test ≡ true
  unfolding all_below
  all_below_none = refl

  pub all_below_more : (i : ℕ) (holds : Bool) → all_below i test ≡ true → holds ≡ test i → not holds ≡ false → all_below (i + 1) test ≡ true
  unfolding all_below
  all_below_more i holds h e t = rw add-one (both (all_below i test) (test i) h (sym e ∙ not-false holds t))

  pub all_below_done : (n i : ℕ) → i ≤ n → n ≤ i → all_below i test ≡ true → true ≡ all_below n test
  all_below_done n i l g h = let e : i ≡ n = omega arith in sym (rw e at h)

  pub all_below_broken : (n i : ℕ) (holds : Bool) → i < n → holds ≡ test i → not holds ≡ true → false ≡ all_below n test
  all_below_broken n i holds l e f =
      cases (all_below n test) (λ (t : all_below n test ≡ true). not_both (test i) (all_below_at n test t i l) (sym e ∙ not-true holds f))
      (λ (g : all_below n test ≡ false). sym g)

  -- a test of all that fails below a number fails below each later one
  pub all_below_within : (n m : ℕ) (answer : Bool) → n ≤ m → answer ≡ all_below n test → not answer ≡ true → false ≡ all_below m test
  all_below_within n m answer l e f =
      cases (all_below m test)
      (λ (t : all_below m test ≡ true).
      not_both (all_below n test) (all_below_lem n test (λ i b. all_below_at m test t i (omega arith))) (sym e ∙ not-true answer f))
      (λ (g : all_below m test ≡ false). sym g)

  -- the answer so far, number by number
  pub so_far_none : true ≡ all_below 0 test
  so_far_none = sym all_below_none

  pub so_far_more : (i : ℕ) (holds so_far : Bool) → so_far ≡ all_below i test → holds ≡ test i → (so_far && holds) ≡ all_below (i + 1) test
  unfolding all_below
  so_far_more i holds so_far h e = rw (add-one, h, e)

  pub so_far_done : (n i : ℕ) (so_far : Bool) → i ≤ n → n ≤ i → so_far ≡ all_below i test → so_far ≡ all_below n test
  so_far_done n i so_far l g h = let e : i ≡ n = omega arith in rw e at h

  -- no more numbers are counted than there are
  pub count_below_small : (n : ℕ) → count_below n test ≤ n
  unfolding count_below
  count_below_small zero = omega arith
  count_below_small (suc n) =
      cases (test n) (λ (t : test n ≡ true). rw t (omega (arith, count_below_small n)))
      (λ (f : test n ≡ false). rw f (omega (arith, count_below_small n)))

  -- a test of some of the numbers, one number further
  pub any_below_zero : false ≡ any_below 0 test
  unfolding any_below
  any_below_zero = refl

  pub any_below_more : (i : ℕ) (found holds : Bool) → found ≡ any_below i test → holds ≡ test i → (found || holds) ≡ any_below (i + 1) test
  unfolding any_below
  any_below_more i found holds e h = rw (add-one, e, h)

  pub any_below_done : (n i : ℕ) (found : Bool) → i ≤ n → n ≤ i → found ≡ any_below i test → found ≡ any_below n test
  any_below_done n i found l g h = let e : i ≡ n = omega arith in rw e at h

-- what the next number makes of the lowest that a test holds of, and of the count of those that it holds of
module _ (n : ℕ) (test : ℕ → Bool) where
  -- a test that holds of no number below one, and not of that one, holds of none below the next
  pub lowest_none : lowest n test ≡ n → test n ≡ false → lowest (n + 1) test ≡ n + 1
  unfolding lowest
  lowest_none e f = rw (add-one n) (rw (e, le-ltb n n (omega arith), f))

  -- a test that holds of no number below one, and of that one, holds of it as the lowest
  pub lowest_found : (m : ℕ) → n < m → lowest n test ≡ n → test n ≡ true → lowest m test ≡ n
  unfolding lowest
  lowest_found m l e t =
      le_ind (λ (k : ℕ). lowest k test ≡ n) (rw (e, le-ltb n n (omega arith), t)) (λ k b ih. rw (ih, lt-ltb n k b)) m l

  pub count_more : test n ≡ true → count_below (n + 1) test ≡ count_below n test + 1
  unfolding count_below
  count_more t = rw (add-one n) (rw t)

  pub count_same : test n ≡ false → count_below (n + 1) test ≡ count_below n test
  unfolding count_below
  count_same f = rw (add-one n) (rw f (add-zero (count_below n test)))
