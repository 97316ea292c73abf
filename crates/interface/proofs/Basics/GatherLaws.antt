-- Laws of the numbers below one that a test holds of, gathered in a list: what the next number adds to them, which they are, and that they rise.
use Prim.Native.Nat.{ℕ, zero, suc, ◌+◌, ◌≤◌, ◌<◌}
use mathlib.Core.Path.{◌≡◌, refl, sym, ◌∙◌}
use mathlib.Core.Logic.{⊎_elim}
use mathlib.Core.Bool.{Bool, true, false, ◌&&◌, ◌||◌, or-false, or_assoc}
use mathlib.Core.List.{List, [], ◌∷◌, ◌++◌, append-nil}
use native.Mathlib.Decide.{le_ind}
use native.Mathlib.Nat.{le_refl, add-zero}
use native.Mathlib.Numerals.{add-one}
use native.Mathlib.Omega.{arith}
use lib.Dec.{eqb, ltb}
use lib.ListN.{length, length-append}
use borrow.Author.Tests.{eq-eqb, eqb-true, lt-ltb, le-ltb, ltb-true}
use Rattle.std.specs.Prelude.{if◌then◌else◌}
use Rattle.interface.specs.Basics.{gather, all, any, member, rising}
use Rattle.interface.proofs.Basics.BoolLaws.{and_left, and_right, both, either, or_left, or_right, same_test, either_way}
use Rattle.interface.proofs.Basics.BelowLaws.{below_suc}

-- tests that agree below a number gather the same numbers
pub gather_same : (n : ℕ) (test other : ℕ → Bool) → ((i : ℕ) → i < n → test i ≡ other i) → gather n test ≡ gather n other
unfolding gather
gather_same zero test other h = refl
gather_same (suc n) test other h = rw (gather_same n test other (λ i l. h i (omega arith)), h n (omega arith))

-- what the next number adds to those that a test holds of, and that they are no fewer further on
module _ (n : ℕ) (test : ℕ → Bool) where
  pub gather_more : test n ≡ true → gather (n + 1) test ≡ gather n test ++ (n ∷ [])
  unfolding gather
  gather_more t = rw (add-one n) (rw t)

  pub gather_none : test n ≡ false → gather (n + 1) test ≡ gather n test
  unfolding gather
  gather_none f = rw (add-one n) (rw f (append-nil (gather n test)))

  pub gather_longer : (m : ℕ) → n ≤ m → length (gather n test) ≤ length (gather m test)
  unfolding gather
  gather_longer m l =
      le_ind (λ (k : ℕ). length (gather n test) ≤ length (gather k test)) (le_refl (length (gather n test)))
      (λ k _ ih. simp length-append (omega arith)) m l

-- numbers that a test does not hold of add nothing
pub gather_past : (n more : ℕ) (test : ℕ → Bool) → ((p : ℕ) → n ≤ p → p < n + more → test p ≡ false) → gather (n + more) test ≡ gather n test
gather_past n zero test none = rw (add-zero n)
gather_past n (suc more) test none =
    let next : n + suc more ≡ n + more + 1 = omega arith in
    rw next (gather_none (n + more) test (none (n + more) (omega arith) (omega arith)) ∙ gather_past n more test (λ p low high. none p low (omega arith)))

-- a test holds of all members of two lists in turn where it does of each list's; and of a list's where one does that holds only where it does
all_append : {A : Type 0} (test : A → Bool) (xs ys : List A) → all test xs ≡ true → all test ys ≡ true → all test (xs ++ ys) ≡ true
unfolding all
all_append test [] ys h k = k
all_append test (x ∷ xs) ys h k =
    both (test x) (all test (xs ++ ys)) (and_left (test x) (all test xs) h) (all_append test xs ys (and_right (test x) (all test xs) h) k)

all_weaker : {A : Type 0} (test other : A → Bool) → ((a : A) → test a ≡ true → other a ≡ true) → (list : List A) → all test list ≡ true → all other list ≡ true
unfolding all
all_weaker test other f [] h = refl
all_weaker test other f (a ∷ list) h =
    both (other a) (all other list) (f a (and_left (test a) (all test list) h)) (all_weaker test other f list (and_right (test a) (all test list) h))

-- what is gathered below a number is below it, and so is the last one below the next
last_below : (n : ℕ) (test : Bool) → all (λ m. ltb m (suc n)) (if test then n ∷ [] else []) ≡ true
unfolding all
last_below n true = both (ltb n (suc n)) true (lt-ltb n (suc n) (omega arith)) refl
last_below n false = refl

gather_below : (n : ℕ) (test : ℕ → Bool) → all (λ m. ltb m n) (gather n test) ≡ true
unfolding gather all
gather_below zero test = refl
gather_below (suc n) test =
    let early =
    all_weaker (λ m. ltb m n) (λ m. ltb m (suc n)) (λ m t. let l : m < n = ltb-true m n t in lt-ltb m (suc n) (omega arith)) (gather n test)
    (gather_below n test) in
    search (all_append (λ m. ltb m (suc n)), early, last_below n (test n))

-- a rising list with a number after it that is above its members rises
rising_then : (list : List ℕ) (n : ℕ) → rising list ≡ true → all (λ m. ltb m n) list ≡ true → rising (list ++ (n ∷ [])) ≡ true
unfolding rising all
rising_then [] n h k = refl
rising_then (a ∷ list) n h k =
    both (all (ltb a) (list ++ (n ∷ []))) (rising (list ++ (n ∷ [])))
    (all_append (ltb a) list (n ∷ []) (and_left (all (ltb a) list) (rising list) h) (both (ltb a n) true (and_left (ltb a n) (all (λ m. ltb m n) list) k) refl))
    (rising_then list n (and_right (all (ltb a) list) (rising list) h) (and_right (ltb a n) (all (λ m. ltb m n) list) k))

-- what is gathered rises, each number once
pub gather_rises : (n : ℕ) (test : ℕ → Bool) → rising (gather n test) ≡ true
unfolding gather rising
gather_rises zero test = refl
gather_rises (suc n) test =
    either_way (λ (last : List ℕ). rising (gather n test ++ last) ≡ true) (test n) (n ∷ []) []
    (rising_then (gather n test) n (gather_rises n test) (gather_below n test)) (rw (append-nil (gather n test)) (gather_rises n test))

-- a number is a member of two lists in turn where it is one of either
member_append : (number : ℕ) (xs ys : List ℕ) → member number (xs ++ ys) ≡ (member number xs || member number ys)
unfolding member any
member_append number [] ys = refl
member_append number (x ∷ xs) ys = rw (member_append number xs ys) (sym (or_assoc (eqb number x) (member number xs) (member number ys)))

-- a number is the last one gathered where the test holds of that and it is it
member_last : (number n : ℕ) (test : Bool) → member number (if test then n ∷ [] else []) ≡ (test && eqb number n)
unfolding member any
member_last number n true = or-false (eqb number n)
member_last number n false = refl

-- the members of what is gathered are the numbers below that the test holds of
pub gather_member : (number n : ℕ) (test : ℕ → Bool) → member number (gather n test) ≡ (ltb number n && test number)
unfolding gather
gather_member number zero test = unfold member any in rw (le-ltb number zero (omega arith))
gather_member number (suc n) test =
    rw (member_append number (gather n test) (if test n then n ∷ [] else []), member_last number n (test n), gather_member number n test)
    (same_test ((ltb number n && test number) || (test n && eqb number n)) (ltb number (suc n) && test number)
    (λ t.
    ⊎_elim
    (λ (early : (ltb number n && test number) ≡ true).
    let l : number < n = ltb-true number n (and_left (ltb number n) (test number) early) in
    both (ltb number (suc n)) (test number) (lt-ltb number (suc n) (omega arith)) (and_right (ltb number n) (test number) early))
    (λ (late : (test n && eqb number n) ≡ true).
    let e : number ≡ n = eqb-true number n (and_right (test n) (eqb number n) late) in
    both (ltb number (suc n)) (test number) (lt-ltb number (suc n) (omega arith)) (rw e (and_left (test n) (eqb number n) late)))
    (either (ltb number n && test number) (test n && eqb number n) t))
    (λ t.
    let holds : test number ≡ true = and_right (ltb number (suc n)) (test number) t in
    below_suc number n (ltb-true number (suc n) (and_left (ltb number (suc n)) (test number) t))
    (λ (l : number < n).
    or_left (ltb number n && test number) (test n && eqb number n) (both (ltb number n) (test number) (lt-ltb number n l) holds))
    (λ (e : number ≡ n).
    or_right (ltb number n && test number) (test n && eqb number n) (both (test n) (eqb number n) (rw e at holds) (eq-eqb number n e)))))
