-- Laws of the marks of a revocation and of a census: what each place that is decided adds to the marks so far.
use Prim.Native.Nat.{ℕ, ◌+◌, ◌*◌, ◌/◌, ◌^◌, ◌≤◌, ◌<◌}
use mathlib.Core.Path.{◌≡◌, refl, sym, ap, ◌∙◌}
use mathlib.Core.Bool.{Bool, true, false, cond, ◌&&◌, ◌||◌, and-false}
use mathlib.Core.List.{List}
use native.Mathlib.Omega.{arith}
use lib.Dec.{eqb, ltb}
use borrow.Author.Tests.{ltb-true, ltb-false, eqb-true, eq-eqb, ne_eqb}
use Rattle.words.specs.Sizes.{object, object_order, page_order, spaces, selectors, start, stride, places, space_of}
use Rattle.words.proofs.PlaceLaws.{start_rises, from_start, before_end}
use Rattle.interface.specs.Places.{cap_at}
use Rattle.interface.specs.Effects.{below}
use Rattle.interface.proofs.Basics.BoolLaws.{cases, not_both}
use Rattle.marks.specs.PlaceBits.{word_bits, bit_at, SetIf}
use Rattle.descent.specs.Walks.{Marked, Marking}

-- what a place that is set adds where a test is told: `here` says whether it is the place, `known` whether its answer was known before
now_known : (here found known test : Bool) → (here ≡ true → found ≡ test) → ((found && here) || (known && test)) ≡ ((here || known) && test)
now_known false true known test same = refl
now_known false false known test same = refl
now_known true true known test same = same refl
now_known true false known false same = and-false known
now_known true false known true same = not_both false (same refl) refl

still_told : (here found test : Bool) → (here ≡ true → found ≡ test) → ((found && here) || test) ≡ test
still_told false true test same = refl
still_told false false test same = refl
still_told true true test same = same refl
still_told true false test same = refl

-- before the first place nothing is to be told
pub begun : {table : List ℕ} {first size : ℕ} {known marks : List ℕ} → ((number : ℕ) → bit_at known number ≡ false) → ((number : ℕ) → bit_at marks number ≡ false) →
    Marking table first size 0 known marks
begun none_known none =
    record {
      before = λ p l. absurd (omega arith);
      later = λ p l. rw (none p, none_known p);
    }

module _ {table : List ℕ} {first size walked : ℕ} {known marks : List ℕ} (so_far : Marking table first size walked known marks) where
  abbrev test : ℕ → Bool
  test = below (cap_at table) first size

  -- the marks of the places before, and of those that are known, tell
  pub told_before : (p : ℕ) {before : Bool} → before ≡ ltb p walked → before ≡ true → bit_at marks p ≡ test p
  told_before p lt t = so_far.before p (ltb-true p walked (sym lt ∙ t))

  pub told_known : (p : ℕ) {is_known : Bool} → walked ≤ p → is_known ≡ bit_at known p → is_known ≡ true → bit_at marks p ≡ test p
  told_known p l is t = so_far.later p l ∙ rw (sym is ∙ t)

  pub told_either : (p : ℕ) {before is_known : Bool} → before ≡ ltb p walked → is_known ≡ bit_at known p → (before || is_known) ≡ true → bit_at marks p ≡ test p
  told_either p {before} {is_known} lt is t =
      cases (ltb p walked) (λ (b : ltb p walked ≡ true). so_far.before p (ltb-true p walked b))
      (λ (f : ltb p walked ≡ false). told_known p (ltb-false p walked f) is (rw (lt ∙ f) at t))

  -- a place becomes known
  pub settled : (at : ℕ) {found : Bool} {more more_marks : List ℕ} → found ≡ test at → SetIf true known at more → SetIf found marks at more_marks →
      Marking table first size walked more more_marks
  settled at {found} is_found made marked =
      let here : (p : ℕ) → eqb p at ≡ true → found ≡ test p = λ p t. is_found ∙ ap test (sym (eqb-true p at t)) in
      record {
        before = λ p l. rw (marked.bits p, so_far.before p l) (still_told (eqb p at) found (test p) (here p));
        later = λ p l. rw (marked.bits p, made.bits p, so_far.later p l) (now_known (eqb p at) found (bit_at known p) (test p) (here p));
      }

  -- the next place is marked where the test holds of it
  pub further : {place : ℕ} {found : Bool} {more_marks : List ℕ} → place ≡ walked → found ≡ test place → SetIf found marks place more_marks →
      Marking table first size (walked + 1) known more_marks
  further {place} {found} is_place is_found marked =
      let here : (p : ℕ) → eqb p place ≡ true → found ≡ test p = λ p t. is_found ∙ ap test (sym (eqb-true p place t)) in
      record {
        before = λ p l.
            cases (ltb p walked)
            (λ (b : ltb p walked ≡ true).
            rw (marked.bits p, so_far.before p (ltb-true p walked b)) (still_told (eqb p place) found (test p) (here p)))
            (λ (f : ltb p walked ≡ false).
            let from = ltb-false p walked f in
            let is : eqb p place ≡ true = eq-eqb p place (omega arith) in
            rw (marked.bits p, so_far.later p from) (now_known (eqb p place) found (bit_at known p) (test p) (here p) ∙ rw is));
        later = λ p l. rw (marked.bits p, ne_eqb p place (omega arith), and-false found) (so_far.later p (omega arith));
      }

  -- places are passed where it holds of none of them
  pub passed : (next : ℕ) → walked ≤ next → ((p : ℕ) → walked ≤ p → p < next → test p ≡ false) → Marking table first size next known marks
  passed next on none =
      record {
        before = λ p l.
            cases (ltb p walked) (λ (b : ltb p walked ≡ true). so_far.before p (ltb-true p walked b))
            (λ (f : ltb p walked ≡ false).
            let from = ltb-false p walked f in
            so_far.later p from ∙ rw (none p from l) (and-false (bit_at known p)));
        later = λ p l. so_far.later p (omega arith);
      }

  pub all_told : walked ≡ places → Marked test marks
  all_told all = record { told = λ p l. so_far.before p (omega arith) }

pub marking_at : {table : List ℕ} {first size walked place : ℕ} {known marks : List ℕ} → place ≡ walked → Marking table first size walked known marks →
    Marking table first size place known marks
marking_at e so_far = rw e so_far

-- the places of a domain before a space, and those after it, are of other spaces
module _ (domain space p : ℕ) (small : space < spaces) (same : space_of p ≡ space) where
  pub not_before : domain * stride ≤ p → p < domain * stride + start space → ⊥
  not_before low high = omega (arith, start_rises space spaces small, rw same at (from_start p))

  pub not_after : domain * stride + start space + selectors space ≤ p → p < (domain + 1) * stride → ⊥
  not_after low high = omega (arith, rw same at (before_end p))

-- a space has as many places as some words have marks
pub whole_words : (space : ℕ) → selectors space / word_bits * word_bits ≡ selectors space
whole_words space = go (eqb space object)
  where
    go : (there : Bool) → 2 ^ cond there object_order page_order / word_bits * word_bits ≡ 2 ^ cond there object_order page_order
    go true = refl
    go false = refl
