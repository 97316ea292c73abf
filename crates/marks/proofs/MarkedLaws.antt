-- Laws of the marked places: the next of them, their number and their list.
use Prim.Native.Nat.{ℕ, zero, suc, ◌+◌, ◌-◌, ◌*◌, ◌/◌, ◌%◌, ◌^◌, ◌≤◌, ◌<◌}
use mathlib.Core.Path.{◌≡◌, refl, sym, ap, ◌∙◌}
use mathlib.Core.Bool.{true, false}
use mathlib.Core.List.{List, [], ◌∷◌, ◌++◌}
use native.Mathlib.Nat.{add-zero, pow-zero, pow-suc, div-one}
use native.Mathlib.Numerals.{add-one, one-add}
use native.Mathlib.Omega.{arith}
use lib.Count.{count_trailing_zeros, under, ones, ones_in, ones_step}
use lib.Dec.{eqb, ltb}
use lib.ListN.{length, take, drop, set, length-append, length-set}
use lib.Pow.{shr-shr}
use lib.Seq.{take_all, drop-cons, append_snoc, set-append_seam}
use Rattle.std.specs.List.{sum_by}
use Rattle.std.proofs.lemmas.List.Sums.{sum_by_more}
use borrow.Author.Tests.{ltb-true, ltb-false, eqb-true, eqb-false}
use Rattle.words.specs.Sizes.{places}
use Rattle.interface.specs.Basics.{gather, word}
use Rattle.interface.proofs.Basics.BoolLaws.{cases}
use Rattle.interface.proofs.Basics.GatherLaws.{gather_more, gather_none, gather_longer, gather_past}
use Rattle.marks.specs.PlaceBits.{word_bits, mark_words, bit_at, NoneMarked, NextMarked, marked_places}

-- one more number stored behind those at the start of a list
stored_next : (found list : List ℕ) (n : ℕ) → length found < length list →
    set (found ++ drop (length found) list) (length found) n ≡ found ++ (n ∷ []) ++ drop (length (found ++ (n ∷ []))) list
stored_next found list n l =
    rw (drop-cons list (length found) 0 l, set-append_seam found _ _ n, append_snoc found n _, length-append found (n ∷ []), add-one (length found))

-- a number's bits below its lowest that is set are not set, and that one is
zeros_below : (digits n i : ℕ) → i < count_trailing_zeros digits n → n / 2 ^ i % 2 ≡ 0
unfolding count_trailing_zeros
zeros_below zero n i l = absurd (omega arith)
zeros_below (suc digits) n i l = go (n % 2) refl (zeros_below digits (n / 2)) i l
  where
    go : (r : ℕ) → n % 2 ≡ r → ((j : ℕ) → j < count_trailing_zeros digits (n / 2) → n / 2 / 2 ^ j % 2 ≡ 0) → (j : ℕ) → j < under r (count_trailing_zeros digits (n / 2)) → n / 2 ^ j % 2 ≡ 0
    go zero even halves zero k = rw (pow-zero 2, div-one n) even
    go zero even halves (suc j) k = rw (← one-add j, ← shr-shr n 1 j) (halves j (omega arith))
    go (suc r) odd halves j k = absurd (omega arith)

zeros_end : (digits n : ℕ) → count_trailing_zeros digits n < digits → n / 2 ^ count_trailing_zeros digits n % 2 ≡ 1
unfolding count_trailing_zeros
zeros_end zero n l = absurd (omega arith)
zeros_end (suc digits) n l = go (n % 2) refl (zeros_end digits (n / 2)) l
  where
    go : (r : ℕ) → n % 2 ≡ r → (count_trailing_zeros digits (n / 2) < digits → n / 2 / 2 ^ count_trailing_zeros digits (n / 2) % 2 ≡ 1) →
        under r (count_trailing_zeros digits (n / 2)) < suc digits → n / 2 ^ under r (count_trailing_zeros digits (n / 2)) % 2 ≡ 1
    go zero even half k = rw (← one-add (count_trailing_zeros digits (n / 2)), ← shr-shr n 1 (count_trailing_zeros digits (n / 2))) (half (omega arith))
    go (suc r) odd half k = rw (pow-zero 2, div-one n) (omega arith)

-- the marks of a word from a number's on
module _ (marks : List ℕ) (number : ℕ) {zeros : ℕ} (is_zeros : zeros ≡ count_trailing_zeros word_bits (word marks (number / word_bits) / 2 ^ (number % word_bits))) where
  abbrev rest : ℕ
  rest = word marks (number / word_bits) / 2 ^ (number % word_bits)

  mark_rest : (i : ℕ) → i < word_bits - number % word_bits → bit_at marks (number + i) ≡ eqb (rest / 2 ^ i % 2) 1
  unfolding bit_at
  mark_rest i l =
      let same_word : (number + i) / word_bits ≡ number / word_bits = omega arith in
      let there : (number + i) % word_bits ≡ number % word_bits + i = omega arith in
      rw (same_word, there) (rw (shr-shr (word marks (number / word_bits)) (number % word_bits) i))

  -- the marks before the lowest one set are not set
  rest_unmarked : (next : ℕ) → next ≤ number + zeros → next ≤ number + (word_bits - number % word_bits) →
      (p : ℕ) → number ≤ p → p < next → bit_at marks p ≡ false
  rest_unmarked next before inside p low high =
      let i = p - number in
      let there : p ≡ number + i = omega arith in
      rw there (mark_rest i (omega arith) ∙ rw (zeros_below word_bits rest i (rw (← is_zeros) (omega arith))))

  -- and that one is
  rest_marked : zeros < word_bits - number % word_bits → bit_at marks (number + zeros) ≡ true
  rest_marked few =
      let fewer : count_trailing_zeros word_bits rest < word_bits = rw (← is_zeros) (omega arith) in
      mark_rest zeros few ∙ rw is_zeros (ap (λ (n : ℕ). eqb n 1) (zeros_end word_bits rest fewer))

  pub rest_found : (from : ℕ) → from ≤ number → number < places → ((p : ℕ) → from ≤ p → p < number → bit_at marks p ≡ false) →
      zeros < word_bits - number % word_bits → NextMarked marks from (number + zeros)
  rest_found from later inside so_far few =
      record {
        later = omega arith;
        ends = omega arith;
        unmarked = λ p low high.
            cases (ltb p number) (λ (t : ltb p number ≡ true). so_far p low (ltb-true p number t))
            (λ (f : ltb p number ≡ false). rest_unmarked (number + zeros) (omega arith) (omega arith) p (ltb-false p number f) high);
        marked = rest_marked few;
      }

  pub rest_passed : (from : ℕ) → ((p : ℕ) → from ≤ p → p < number → bit_at marks p ≡ false) → word_bits - number % word_bits ≤ zeros →
      (p : ℕ) → from ≤ p → p < number + (word_bits - number % word_bits) → bit_at marks p ≡ false
  rest_passed from so_far none p low high =
      cases (ltb p number) (λ (t : ltb p number ≡ true). so_far p low (ltb-true p number t))
      (λ (f : ltb p number ≡ false).
      rest_unmarked (number + (word_bits - number % word_bits)) (omega arith) (omega arith) p (ltb-false p number f) high)

-- the marked places below a number
abbrev pub marked_below : List ℕ → ℕ → List ℕ
marked_below marks number = gather number (bit_at marks)

-- what a marked place adds to those below it, up to the next
marked_same : {marks : List ℕ} {from next : ℕ} → NextMarked marks from next → marked_below marks next ≡ marked_below marks from
marked_same {marks} {from} {next} found =
    let later = found.later in
    let there : next ≡ from + (next - from) = omega arith in
    rw there (gather_past from (next - from) (bit_at marks) (λ p low high. found.unmarked p low (omega arith)))

module _ {marks : List ℕ} {from number : ℕ} (found : NextMarked marks from number) where
  marked_more : marked_below marks (number + 1) ≡ marked_below marks from ++ (number ∷ [])
  marked_more = gather_more number (bit_at marks) found.marked ∙ ap (λ (l : List ℕ). l ++ (number ∷ [])) (marked_same found)

  count_more : {count : ℕ} → count ≡ length (marked_below marks from) → count + 1 ≡ length (marked_below marks (number + 1))
  count_more so_far = rw (marked_more, length-append (marked_below marks from) (number ∷ []), so_far)

-- a bit of a word
bit_of : (marks : List ℕ) (at n : ℕ) → n < word_bits → bit_at marks (at * word_bits + n) ≡ eqb (word marks at / 2 ^ n % 2) 1
unfolding bit_at
bit_of marks at n l =
    let there : (at * word_bits + n) / word_bits ≡ at = omega arith in
    let place : (at * word_bits + n) % word_bits ≡ n = omega arith in
    rw (there, place)

-- a number's set bits are those of its digits
ones_all : (digits n : ℕ) → n < 2 ^ digits → ones_in digits n ≡ ones n
unfolding ones ones_in
ones_all zero n l = let none : n ≡ 0 = omega arith in rw none
ones_all (suc digits) n l = rw (ones_all digits (n / 2) (omega (arith, pow-suc 2 digits)), ones_step n)

pub word_ones : {n set : ℕ} → n < 2 ^ word_bits → set ≡ ones n → set ≡ ones_in word_bits n
word_ones {n} small is_set = is_set ∙ sym (ones_all word_bits n small)

-- the marked places of a word are as many as its set bits
module _ (marks : List ℕ) (at : ℕ) where
  abbrev first : ℕ
  first = at * word_bits

  -- a place more is counted where the lowest bit of what is left of the word is set
  bit_counted : (n : ℕ) → n < word_bits → length (marked_below marks (first + n + 1)) ≡ length (marked_below marks (first + n)) + word marks at / 2 ^ n % 2
  bit_counted n l =
      let left = word marks at / 2 ^ n in
      let bit : bit_at marks (first + n) ≡ eqb (left % 2) 1 = bit_of marks at n l in
      cases (eqb (left % 2) 1)
      (λ (t : eqb (left % 2) 1 ≡ true).
      rw (gather_more (first + n) (bit_at marks) (bit ∙ t), length-append (marked_below marks (first + n)) ((first + n) ∷ [])) (omega (arith, eqb-true (left % 2) 1 t)))
      (λ (f : eqb (left % 2) 1 ≡ false).
      rw (gather_none (first + n) (bit_at marks) (bit ∙ f)) (let even = eqb-false (left % 2) 1 f in omega arith))

  -- the bits from one on
  bits_counted : (left n : ℕ) → n + left ≡ word_bits → length (marked_below marks (first + n + left)) ≡ length (marked_below marks (first + n)) + ones_in left (word marks at / 2 ^ n)
  unfolding ones_in
  bits_counted zero n l = rw (add-zero (first + n)) (omega arith)
  bits_counted (suc left) n l =
      let next : first + n + suc left ≡ first + suc n + left = omega arith in
      let one : first + suc n ≡ first + n + 1 = omega arith in
      let half : word marks at / 2 ^ suc n ≡ word marks at / 2 ^ n / 2 = rw (← add-one n) (sym (shr-shr (word marks at) n 1)) in
      rw (next, bits_counted left (suc n) (omega arith), one, bit_counted n (omega arith), half) (omega arith)

  word_counted : length (marked_below marks ((at + 1) * word_bits)) ≡ length (marked_below marks (at * word_bits)) + ones_in word_bits (word marks at)
  word_counted =
      let all = rw (add-zero first, pow-zero 2, div-one (word marks at)) at (bits_counted word_bits 0 refl) in
      let next : (at + 1) * word_bits ≡ first + word_bits = omega arith in
      rw next all

-- those of the first words, and of all
words_counted : (marks : List ℕ) (n : ℕ) → n ≤ length marks → sum_by (ones_in word_bits) (take n marks) ≡ length (marked_below marks (n * word_bits))
unfolding gather
words_counted marks zero l = refl
words_counted marks (suc n) l =
    rw (← add-one n) (sum_by_more (ones_in word_bits) marks n 0 (omega arith) ∙ rw (words_counted marks n (omega arith)) (sym (word_counted marks n)))

pub all_counted : (marks : List ℕ) → length marks ≡ mark_words → sum_by (ones_in word_bits) marks ≡ length (marked_places marks)
all_counted marks long = ap (sum_by (ones_in word_bits)) (sym (take_all mark_words marks (omega arith))) ∙ words_counted marks mark_words (omega arith)

-- a list that begins with the marked places that are below a number, and otherwise is as it was
pub record Filled (marks : List ℕ) (from count : ℕ) (before list : List ℕ) : Type 0 where
  pub counted : count ≡ length (marked_below marks from)
  pub as_long : length list ≡ length before
  pub shows : list ≡ marked_below marks from ++ drop count before

pub filled_none : {marks : List ℕ} {from count : ℕ} (list : List ℕ) → from ≡ 0 → count ≡ 0 → Filled marks from count list list
unfolding gather
filled_none list begins none = rw (begins, none) (record { counted = refl; as_long = refl; shows = refl })

module _ {marks : List ℕ} {from count : ℕ} {before list : List ℕ} (so_far : Filled marks from count before list) where
  -- a list with room for the marked places has room for the next of them
  pub filled_room : {number : ℕ} → NextMarked marks from number → length (marked_places marks) ≤ length before → count < length list
  filled_room {number} found fits =
      omega (arith, so_far.as_long, count_more found so_far.counted, gather_longer (number + 1) (bit_at marks) places (omega (arith, found.ends)))

  pub filled_more : {number : ℕ} → NextMarked marks from number → count < length list → Filled marks (number + 1) (count + 1) before (set list count number)
  filled_more {number} found l =
      let counted = so_far.counted in
      let next_count = count_more found counted in
      record {
        counted = next_count;
        as_long = length-set list count number ∙ so_far.as_long;
        shows =
            rw (next_count, marked_more found, so_far.shows, counted)
            (stored_next (marked_below marks from) before number (rw (← counted, ← so_far.as_long) l));
      }

  -- where none is left the list shows all
  pub filled_all : from ≤ places → NoneMarked marks from → list ≡ marked_places marks ++ drop (length (marked_places marks)) before
  filled_all inside none =
      let there : places ≡ from + (places - from) = omega arith in
      let all : marked_places marks ≡ marked_below marks from =
      rw there (gather_past from (places - from) (bit_at marks) (λ p low high. none.unmarked p low (omega arith))) in
      rw (all, ← so_far.counted) so_far.shows
