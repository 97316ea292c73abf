-- Places whose words are all 0 are null, and null places have words that are all 0.
use Prim.Native.Nat.{ℕ, zero, suc, ◌+◌, ◌-◌, ◌*◌, ◌/◌, ◌%◌, ◌≤◌, ◌<◌}
use mathlib.Core.Path.{◌≡◌, ap}
use mathlib.Core.Bool.{true}
use mathlib.Core.List.{List}
use native.Mathlib.Nat.{add-zero}
use native.Mathlib.Omega.{arith}
use lib.Dec.{eqb}
use borrow.Author.Tests.{eqb-true, eq-eqb}
use Rattle.words.specs.Sizes.{place_words}
use Rattle.interface.specs.Basics.{word}
use Rattle.interface.specs.Places.{Cap, nothing, cap_at}
use Rattle.interface.proofs.Basics.BelowLaws.{all_below_at, all_below_lem}
use Rattle.place_rules.specs.PlaceKeeping.{blank}

-- a run of places whose words are all 0 has null places
pub blank_null : (table : List ℕ) (first count p : ℕ) → first ≤ p → p < first + count → blank table first count ≡ true → cap_at table p ≡ nothing
unfolding cap_at
blank_null table first count p from before empty =
    let zeros : (k : ℕ) → k < place_words → word table (place_words * p + k) ≡ 0 =
    λ k b.
    let i = place_words * (p - first) + k in
    let there : place_words * first + i ≡ place_words * p + k = omega arith in
    rw there at
    (eqb-true (word table (place_words * first + i)) 0
    (all_below_at (place_words * count) (λ j. eqb (word table (place_words * first + j)) 0) empty i (omega arith))) in
    let resource : word table (place_words * p) ≡ 0 = rw (add-zero (place_words * p)) at (zeros 0 (omega arith)) in
    λ i.
    record {
      resource = resource i;
      permissions = zeros 1 (omega arith) i;
      parent = zeros 2 (omega arith) i;
      depth = zeros 3 (omega arith) i;
    }

-- the words of a null place are 0
null_word : (table : List ℕ) (p k : ℕ) → k < place_words → cap_at table p ≡ nothing → word table (place_words * p + k) ≡ 0
unfolding cap_at
null_word table p zero l e = rw (add-zero (place_words * p)) (ap (λ (cap : Cap). cap.resource) e)
null_word table p (suc zero) l e = ap (λ (cap : Cap). cap.permissions) e
null_word table p (suc (suc zero)) l e = ap (λ (cap : Cap). cap.parent) e
null_word table p (suc (suc (suc zero))) l e = ap (λ (cap : Cap). cap.depth) e
null_word table p (suc (suc (suc (suc k)))) l e = absurd (omega arith)

-- so the words of a run of null places are all 0
pub null_blank : (table : List ℕ) (first count : ℕ) → ((p : ℕ) → first ≤ p → p < first + count → cap_at table p ≡ nothing) → blank table first count ≡ true
null_blank table first count nulls =
    all_below_lem (place_words * count) (λ i. eqb (word table (place_words * first + i)) 0)
    (λ i l.
    let p = first + i / place_words in
    let there : place_words * p + i % place_words ≡ place_words * first + i = omega arith in
    let inside : p < first + count = omega arith in
    let from : first ≤ p = omega arith in
    let small : i % place_words < place_words = omega arith in
    eq-eqb (word table (place_words * first + i)) 0 (rw there at (null_word table p (i % place_words) small (nulls p from inside))))
