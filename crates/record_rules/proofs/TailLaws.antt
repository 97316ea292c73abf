-- Tests of the numbers from one on below another: such a test is that of its first number and of those after it.
use Prim.Native.Nat.{ℕ, zero, suc, ◌+◌, ◌-◌, ◌≤◌, ◌<◌}
use mathlib.Core.Path.{◌≡◌, refl, sym, ap, ◌∙◌, fun_ext}
use mathlib.Core.Bool.{Bool, true, false, ◌&&◌, ◌||◌, and_assoc}
use mathlib.Core.List.{List}
use native.Mathlib.Omega.{arith}
use lib.ListN.{length, drop, length-drop}
use Rattle.std.proofs.lemmas.List.{get_or-drop}
use Rattle.std.specs.List.{list_all, range_with_len}
use lib.Dec.{eqb, ltb, leb-suc-zero}
use borrow.Author.Tests.{ltb-false, lt-ltb, le-ltb, eqb-true, eqb-false}
use Rattle.interface.specs.Basics.{word, all_below}
use Rattle.interface.proofs.Basics.BoolLaws.{cases, same_test, and_left, and_right, both}
use Rattle.interface.proofs.Basics.BelowLaws.{all_below_at, all_below_lem}
use Rattle.objects.proofs.WalkLaws.{all_range, word_passes, words_pass}

module _ (n : ℕ) (test : ℕ → Bool) where
  -- whether a test holds of each number from one on
  abbrev pub all_from : ℕ → Bool
  all_from first = all_below n (λ k. ltb k first || test k)

  pub from_zero : all_from 0 ≡ all_below n test
  from_zero = ap (all_below n) (fun_ext (λ k. rw (leb-suc-zero k)))

  -- a number past the first passes the test where all from the first on do
  pub from_at : (first : ℕ) → all_from first ≡ true → (k : ℕ) → first ≤ k → k < n → test k ≡ true
  from_at first h k past l = rw (le-ltb k first past) at (all_below_at n (λ k. ltb k first || test k) h k l)

  pub from_so : (first : ℕ) → ((k : ℕ) → first ≤ k → k < n → test k ≡ true) → all_from first ≡ true
  from_so first h =
      all_below_lem n (λ k. ltb k first || test k)
      (λ k l.
      cases (ltb k first) (λ (t : ltb k first ≡ true). rw t)
      (λ (f : ltb k first ≡ false). rw f (h k (ltb-false k first f) l)))

  pub from_next : (first : ℕ) → first < n → all_from first ≡ (test first && all_from (first + 1))
  from_next first l =
      same_test (all_from first) (test first && all_from (first + 1))
      (λ h.
      both (test first) (all_from (first + 1)) (from_at first h first (omega arith) l)
      (from_so (first + 1) (λ k past b. from_at first h k (omega arith) b)))
      (λ h.
      from_so first
      (λ k past b.
      cases (eqb k first) (λ (t : eqb k first ≡ true). rw (eqb-true k first t) (and_left (test first) (all_from (first + 1)) h))
      (λ (f : eqb k first ≡ false).
      let apart = eqb-false k first f in
      from_at (first + 1) (and_right (test first) (all_from (first + 1)) h) k (omega (arith, apart)) b)))

-- a test of all as the tests of the first four and of those after them
pub after_four : (n : ℕ) (test : ℕ → Bool) → 4 ≤ n → (test 0 && test 1 && test 2 && test 3 && all_from n test 4) ≡ all_below n test
after_four n test l =
    sym
    (sym (from_zero n test) ∙
    rw (from_next n test 0 (omega arith), from_next n test 1 (omega arith), from_next n test 2 (omega arith), from_next n test 3 (omega arith))
    (rw (← and_assoc (test 0), ← and_assoc (test 0 && test 1), ← and_assoc (test 0 && test 1 && test 2))))

-- a test of each number from one on, one at a time
tail_range : (test : ℕ → Bool) (n a first : ℕ) → first ≤ a → list_all (λ k. ltb k first || test k) (range_with_len a n) ≡ list_all test (range_with_len a n)
tail_range test zero a first l = refl
tail_range test (suc n) a first l = rw (le-ltb a first l) (ap (λ (rest : Bool). test a && rest) (tail_range test n (a + 1) first (omega arith)))

pub from_range : (n first : ℕ) (test : ℕ → Bool) → first ≤ n → list_all test (range_with_len first (n - first)) ≡ all_from n test first
from_range n first test l =
    let tail : ℕ → Bool = λ k. ltb k first || test k in
    let before : all_below first tail ≡ true = all_below_lem first tail (λ k b. rw (lt-ltb k first b)) in
    let count : first + (n - first) ≡ n = omega arith in
    sym (tail_range test (n - first) first first (omega arith)) ∙ rw (before, count) at (all_range tail (n - first) first)

-- and of each word of a list from one on
pub from_list : (words : List ℕ) (first : ℕ) (test : ℕ → Bool) → first ≤ length words →
    list_all test (drop first words) ≡ all_from (length words) (λ i. test (word words i)) first
from_list words first test l =
    let numbered : ℕ → Bool = λ i. test (word words i) in
    let long : length (drop first words) ≡ length words - first = length-drop first words in
    same_test (list_all test (drop first words)) (all_from (length words) numbered first)
    (λ h.
    from_so (length words) numbered first
    (λ k past b.
    let same : first + (k - first) ≡ k = omega arith in
    let passes = word_passes test (drop first words) h (k - first) (omega (arith, long)) in
    rw (get_or-drop first words (k - first) 0, same) at passes))
    (λ h.
    words_pass test (drop first words)
    (λ i b. rw (get_or-drop first words i 0) (from_at (length words) numbered first h (first + i) (omega arith) (omega (arith, long)))))

-- tests that are the same from a number on
pub from_same : (n first : ℕ) (test other : ℕ → Bool) → ((k : ℕ) → first ≤ k → test k ≡ other k) → all_from n test first ≡ all_from n other first
from_same n first test other same =
    ap (all_below n)
    (fun_ext
    (λ k.
    cases (ltb k first) (λ (t : ltb k first ≡ true). rw t)
    (λ (f : ltb k first ≡ false). rw f (same k (ltb-false k first f)))))
