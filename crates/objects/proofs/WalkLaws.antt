-- What the library's walks along a range of numbers or a list come to: the lowest number that a test holds of, a test of all of them, a test of some, and a count.
use Prim.Native.Nat.{ℕ, zero, suc, ◌+◌, ◌≤◌, ◌<◌}
use mathlib.Core.Path.{◌≡◌, refl, sym, ap, ◌∙◌}
use mathlib.Core.Bool.{Bool, true, false, ◌&&◌, ◌||◌, and-true, or-false}
use mathlib.Core.List.{List, [], ◌∷◌}
use native.Mathlib.Numerals.{add-one}
use native.Mathlib.Nat.{add-zero}
use native.Mathlib.Omega.{arith}
use lib.ListN.{length, take, drop, length-drop}
use denote.Param.Members.{Mut, Called}
use denote.Ref.{Bor}
use Rattle.std.specs.declared.ops.Range.{Range}
use Rattle.std.specs.declared.option.Option.{Option}
use Rattle.std.specs.declared.option.Option.TheVariants.{Some, None}
use Rattle.std.specs.Bool.{⊤}
use Rattle.std.specs.Fn.{CalledAt}
use Rattle.std.specs.Option.{MatchOption}
use Rattle.std.specs.List.{FoldsTo, range_with_len, filter, zip, list_all, list_any}
use Rattle.std.specs.Iterator.{YieldsThen, Drains}
use Rattle.std.proofs.Math.Bool.{and_assoc, or_assoc}
use Rattle.std.proofs.iter.Yields.{nat_range_steps}
use Rattle.std.proofs.lemmas.Fn.{fold_over}
use Rattle.std.proofs.lemmas.Iterator.{YieldsList, first_from_Range}
use Rattle.std.proofs.lemmas.List.{get_or-take, get_or-drop, length-take-le}
use Rattle.std.proofs.lemmas.List.Folds.{list_all-append, list_any-append}
use Rattle.interface.specs.Basics.{word, all_below, any_below, count_below, lowest}
use Rattle.interface.proofs.Basics.LoopLaws.{count_more, count_same, lowest_none, lowest_found}
use Rattle.interface.proofs.Basics.BoolLaws.{cases, both, and_left, and_right, same_test}
use Rattle.interface.proofs.Basics.BelowLaws.{all_below_at, all_below_lem}

module _ (test : ℕ → Bool) where
  -- a test that fails of every number below one holds of none
  none_lowest : (n : ℕ) → ((k : ℕ) → k < n → test k ≡ false) → lowest n test ≡ n
  unfolding lowest
  none_lowest zero h = refl
  none_lowest (suc n) h =
      rw (add-one n) at (lowest_none n test (none_lowest n (λ k l. h k (omega arith))) (h n (omega arith)))

  -- a search along the numbers below one, whose closure is the test, finds the lowest that it holds of
  pub find_lowest : {F : Type 0} {g : Mut F (Bor ℕ × Unit {0}) Bool} (s u : Range ℕ) (f : F) (r : Option ℕ) → s.start ≡ 0 →
      ((xs : List ℕ) × (j : F) × YieldsThen nat_range_steps s xs r u × FoldsTo (λ p x q. CalledAt g p x false q) f xs j ×
      MatchOption r ⊤ (λ x. (h : F) × CalledAt g j x true h)) →
      ((x : ℕ) (b : Bool) (q : F) → CalledAt g f x b q → (q ≡ f) × (b ≡ test x)) →
      MatchOption r (lowest s.end test ≡ s.end) (λ i. (i < s.end) × (lowest s.end test ≡ i))
  find_lowest s u f r first ran is_test =
      lowest_of s.start s.end r first
      (first_from_Range s u f r (λ x. test x ≡ true) (λ x. test x ≡ false) ran (λ x q k. sym (is_test x true q k).1)
      (λ x q k. let (same, fails) = is_test x false q k in (same, sym fails)))
    where
      lowest_of : (start end : ℕ) (r : Option ℕ) → start ≡ 0 →
          MatchOption r ((k : ℕ) → start ≤ k → k < end → test k ≡ false)
          (λ i. (start ≤ i) × (i < end) × (test i ≡ true) × ((k : ℕ) → start ≤ k → k < i → test k ≡ false)) →
          MatchOption r (lowest end test ≡ end) (λ i. (i < end) × (lowest end test ≡ i))
      lowest_of start end None e h = none_lowest end (λ k l. h k (omega arith) l)
      lowest_of start end (Some i) e (z, l, t, h) = (l, lowest_found i test end l (none_lowest i (λ k b. h k (omega arith) b)) t)

  -- the numbers from one on, one at a time
  pub all_range : (n a : ℕ) → (all_below a test && list_all test (range_with_len a n)) ≡ all_below (a + n) test
  unfolding all_below
  all_range zero a = rw (add-zero a) (and-true (all_below a test))
  all_range (suc n) a =
      let next : (all_below (a + 1) test && list_all test (range_with_len (a + 1) n)) ≡ all_below (a + 1 + n) test = all_range n (a + 1) in
      let count : a + 1 + n ≡ a + suc n = omega arith in
      let here : all_below (a + 1) test ≡ (all_below a test && test a) = rw (add-one a) in
      sym (and_assoc (all_below a test) (test a) (list_all test (range_with_len (a + 1) n))) ∙ rw (count, here) at next

  any_range : (n a : ℕ) → (any_below a test || list_any test (range_with_len a n)) ≡ any_below (a + n) test
  unfolding any_below
  any_range zero a = rw (add-zero a) (or-false (any_below a test))
  any_range (suc n) a =
      let next : (any_below (a + 1) test || list_any test (range_with_len (a + 1) n)) ≡ any_below (a + 1 + n) test = any_range n (a + 1) in
      let count : a + 1 + n ≡ a + suc n = omega arith in
      let here : any_below (a + 1) test ≡ (any_below a test || test a) = rw (add-one a) in
      sym (or_assoc (any_below a test) (test a) (list_any test (range_with_len (a + 1) n))) ∙ rw (count, here) at next

  filter_range : (n a : ℕ) → length (filter test (range_with_len a n)) + count_below a test ≡ count_below (a + n) test
  filter_range zero a = rw (add-zero a) (omega arith)
  filter_range (suc n) a =
      let next : length (filter test (range_with_len (a + 1) n)) + count_below (a + 1) test ≡ count_below (a + 1 + n) test = filter_range n (a + 1) in
      let count : a + 1 + n ≡ a + suc n = omega arith in
      cases (test a)
      (λ (t : test a ≡ true). rw (t, ← count) (omega (arith, next, count_more a test t)))
      (λ (f : test a ≡ false). rw (f, ← count) (omega (arith, next, count_same a test f)))

  -- the numbers below one
  pub all_numbers : (n : ℕ) → list_all test (range_with_len 0 n) ≡ all_below n test
  unfolding all_below
  all_numbers n = let all : list_all test (range_with_len 0 n) ≡ all_below (0 + n) test = all_range n 0 in let e : 0 + n ≡ n = omega arith in rw e at all

  pub any_numbers : (n : ℕ) → list_any test (range_with_len 0 n) ≡ any_below n test
  unfolding any_below
  any_numbers n = let some : list_any test (range_with_len 0 n) ≡ any_below (0 + n) test = any_range n 0 in let e : 0 + n ≡ n = omega arith in rw e at some

  pub counted_numbers : (n : ℕ) → length (filter test (range_with_len 0 n)) ≡ count_below n test
  unfolding count_below
  counted_numbers n =
      let all : length (filter test (range_with_len 0 n)) + 0 ≡ count_below (0 + n) test = filter_range n 0 in
      let e : 0 + n ≡ n = omega arith in
      let same : length (filter test (range_with_len 0 n)) + 0 ≡ count_below n test = rw e at all in
      omega arith

  -- a test of each word of a list is a test of all of its words by their numbers
  pub word_passes : (words : List ℕ) → list_all test words ≡ true → (i : ℕ) → i < length words → test (word words i) ≡ true
  word_passes [] h i l = absurd (omega arith)
  word_passes (first ∷ words) h zero l = and_left (test first) (list_all test words) h
  word_passes (first ∷ words) h (suc i) l = word_passes words (and_right (test first) (list_all test words) h) i (omega arith)

  pub words_pass : (words : List ℕ) → ((i : ℕ) → i < length words → test (word words i) ≡ true) → list_all test words ≡ true
  words_pass [] h = refl
  words_pass (first ∷ words) h = both (test first) (list_all test words) (h 0 (omega arith)) (words_pass words (λ i l. h (suc i) (omega arith)))

  pub all_words : (words : List ℕ) → list_all test words ≡ all_below (length words) (λ i. test (word words i))
  all_words words =
      same_test (list_all test words) (all_below (length words) (λ i. test (word words i)))
      (λ h. all_below_lem (length words) (λ i. test (word words i)) (word_passes words h))
      (λ h. words_pass words (all_below_at (length words) (λ i. test (word words i)) h))

  -- and so is a test of each of so many words of a list from one on
  pub all_between : (words : List ℕ) (start n : ℕ) → start + n ≤ length words →
      list_all test (take n (drop start words)) ≡ all_below n (λ i. test (word words (start + i)))
  all_between words start n fits =
      let between = take n (drop start words) in
      let long : length between ≡ n = length-take-le n (drop start words) (omega (arith, length-drop start words)) in
      same_test (list_all test between) (all_below n (λ i. test (word words (start + i))))
      (λ h.
      all_below_lem n (λ i. test (word words (start + i)))
      (λ i l. rw (get_or-take n (drop start words) i 0 l, get_or-drop start words i 0) at (word_passes between h i (omega (arith, long)))))
      (λ h.
      words_pass between
      (λ i l.
      let b : i < n = omega (arith, long) in
      rw (get_or-take n (drop start words) i 0 b, get_or-drop start words i 0) (all_below_at n (λ j. test (word words (start + j))) h i b)))

-- a test of each pair of words of two lists of one length
module _ (test : ℕ × ℕ → Bool) where
  pair_passes : (words others : List ℕ) → length words ≡ length others → list_all test (zip words others) ≡ true → (i : ℕ) → i < length words →
      test (word words i, word others i) ≡ true
  pair_passes [] others e h i l = absurd (omega arith)
  pair_passes (first ∷ words) [] e h i l = absurd (omega arith)
  pair_passes (first ∷ words) (other ∷ others) e h zero l = and_left (test (first, other)) (list_all test (zip words others)) h
  pair_passes (first ∷ words) (other ∷ others) e h (suc i) l =
      pair_passes words others (omega arith) (and_right (test (first, other)) (list_all test (zip words others)) h) i (omega arith)

  pairs_pass : (words others : List ℕ) → length words ≡ length others → ((i : ℕ) → i < length words → test (word words i, word others i) ≡ true) →
      list_all test (zip words others) ≡ true
  pairs_pass [] others e h = refl
  pairs_pass (first ∷ words) [] e h = refl
  pairs_pass (first ∷ words) (other ∷ others) e h =
      both (test (first, other)) (list_all test (zip words others)) (h 0 (omega arith)) (pairs_pass words others (omega arith) (λ i l. h (suc i) (omega arith)))

  -- of as many words of a list from one on as from another on
  pub all_pairs : (words : List ℕ) (start next n : ℕ) → start + n ≤ length words → next + n ≤ length words →
      list_all test (zip (take n (drop start words)) (take n (drop next words))) ≡ all_below n (λ i. test (word words (start + i), word words (next + i)))
  all_pairs words start next n fits next_fits =
      let these = take n (drop start words) in
      let those = take n (drop next words) in
      let long : length these ≡ n = length-take-le n (drop start words) (omega (arith, length-drop start words)) in
      let next_long : length those ≡ n = length-take-le n (drop next words) (omega (arith, length-drop next words)) in
      let this_word : (i : ℕ) → i < n → word these i ≡ word words (start + i) = λ i l. get_or-take n (drop start words) i 0 l ∙ get_or-drop start words i 0 in
      let that_word : (i : ℕ) → i < n → word those i ≡ word words (next + i) = λ i l. get_or-take n (drop next words) i 0 l ∙ get_or-drop next words i 0 in
      same_test (list_all test (zip these those)) (all_below n (λ i. test (word words (start + i), word words (next + i))))
      (λ h.
      all_below_lem n (λ i. test (word words (start + i), word words (next + i)))
      (λ i l. rw (this_word i l, that_word i l) at (pair_passes these those (omega (arith, long, next_long)) h i (omega (arith, long)))))
      (λ h.
      pairs_pass these those (omega (arith, long, next_long))
      (λ i l.
      let b : i < n = omega (arith, long) in
      rw (this_word i b, that_word i b) (all_below_at n (λ j. test (word words (start + j), word words (next + j))) h i b)))

-- a fold of a walk that holds each member against a test, and leaves no member out
module _ {S A B F : Type 0} {steps : S → Option A → S → Type 0} {v : A → B} {g : Mut F (Bool × (A × Unit {0})) Bool} (test : B → Bool) (f : F) (s : S) (all : List B) (r : Bool)
    (yields : YieldsList steps v s all) where
  pub fold_all : ((xs : List A) × (q : F) × Drains steps s xs × FoldsTo {P = F × Bool} (λ p x q. Called g p.0 (p.1, (x, tt)) q.1 q.0) (f, true) xs (q, r)) →
      ((a : Bool) (x : A) (b : Bool) (q : F) → Called g f (a, (x, tt)) b q → (b ≡ (a && test (v x))) × (q ≡ f)) → r ≡ list_all test all
  fold_all ran is_test =
      fold_over steps v g (λ ys b. b ≡ list_all test ys) f
      (λ ys a x b q so_far call.
      let (is, same) = is_test a x b q call in
      (is ∙ rw (so_far) (rw (list_all-append test ys (v x ∷ [])) (ap (λ (c : Bool). list_all test ys && c) (sym (and-true (test (v x)))))), same))
      s all true r yields.runs refl ran

  pub fold_any : ((xs : List A) × (q : F) × Drains steps s xs × FoldsTo {P = F × Bool} (λ p x q. Called g p.0 (p.1, (x, tt)) q.1 q.0) (f, false) xs (q, r)) →
      ((a : Bool) (x : A) (b : Bool) (q : F) → Called g f (a, (x, tt)) b q → (b ≡ (a || test (v x))) × (q ≡ f)) → r ≡ list_any test all
  fold_any ran is_test =
      fold_over steps v g (λ ys b. b ≡ list_any test ys) f
      (λ ys a x b q so_far call.
      let (is, same) = is_test a x b q call in
      (is ∙ rw (so_far) (rw (list_any-append test ys (v x ∷ [])) (ap (λ (c : Bool). list_any test ys || c) (sym (or-false (test (v x)))))), same))
      s all false r yields.runs refl ran
