-- Where the first and the last place of a stretch of domain 0 are as at boot and each word rises by steps of at most one, the places in between are as at boot too.
use Rattle.std.proofs.Common.{◌≡◌, ℕ, zero, suc, ◌+◌, ◌-◌, ◌*◌, ◌/◌, ◌%◌, ◌^◌, ◌<◌, ◌≤◌, Bool, true, false, ◌&&◌, eqb, ltb, leb, List, sym, refl, ap, ◌∙◌, add-zero, arith, ltb-false, ltb-true, eq-eqb, eqb-true, le-leb, leb-true}
use mathlib.Core.Path.{fun_ext}
use borrow.Author.Tests.{eqb-false}
use Rattle.words.specs.Sizes.{domain_of, place_words}
use Rattle.interface.specs.Basics.{word, all_below}
use Rattle.interface.specs.Places.{Cap, cap_at, parentless, places_in}
use Rattle.interface.specs.Boot.{hypervisor, boot_cap}
use Rattle.interface.specs.Damage.{fixed_place}
use Rattle.interface.proofs.Basics.BoolLaws.{cases, same_test, not_both, and_left, and_right, both, or_left, or_right}
use Rattle.interface.proofs.Basics.BelowLaws.{all_below_at, all_below_lem}
use Rattle.interface.proofs.Sound.PlaceFacts.{boot_cap_lem}
use Rattle.hypervisor_rules.specs.HypervisorKeeping.{steps, is_step, rising, Stretch}
use Rattle.place_rules.proofs.PlaceTests.{fixed_same}

-- a step is a difference of at most one, taken modulo the number of words
module _ (before after : ℕ) where
  step_level : after ≡ before → is_step before after ≡ true
  step_level e = or_left (eqb after before) (eqb after ((before + 1) % 2 ^ 32)) (eq-eqb after before e)

  step_up : after ≡ (before + 1) % 2 ^ 32 → is_step before after ≡ true
  step_up e = or_right (eqb after before) (eqb after ((before + 1) % 2 ^ 32)) (eq-eqb after ((before + 1) % 2 ^ 32) e)

  step_told : {C : Type 0} → is_step before after ≡ true → (after ≡ before → C) → (after ≡ (before + 1) % 2 ^ 32 → C) → C
  step_told h level up =
      cases (eqb after before) (λ (t : eqb after before ≡ true). level (eqb-true after before t))
      (λ (f : eqb after before ≡ false). up (eqb-true after ((before + 1) % 2 ^ 32) (rw f at h)))

  pub step_so : (step : ℕ) → before < 2 ^ 32 → step < 2 ^ 32 → (step + before) % 2 ^ 32 ≡ after → leb step 1 ≡ is_step before after
  step_so step small few e =
      same_test (leb step 1) (is_step before after)
      (λ (t : leb step 1 ≡ true).
      let least = leb-true step 1 t in
      cases (eqb step 0) (λ (z : eqb step 0 ≡ true). let none = eqb-true step 0 z in step_level (omega arith))
      (λ (f : eqb step 0 ≡ false).
      let some = eqb-false step 0 f in
      let one : step ≡ 1 = omega arith in
      step_up (omega arith)))
      (λ (t : is_step before after ≡ true).
      le-leb step 1
      (step_told t (λ (same : after ≡ before). omega arith) (λ (next : after ≡ (before + 1) % 2 ^ 32). omega arith)))

-- the same of a number that may be no word
pub step_any : (before after step : ℕ) → step < 2 ^ 32 → (step + before) % 2 ^ 32 ≡ after → leb step 1 ≡ is_step (before % 2 ^ 32) after
step_any before after step few e = step_so (before % 2 ^ 32) after step (omega arith) few (omega arith)

pub words_step : (words : List ℕ) (start count : ℕ) → ((i : ℕ) → word words i < 2 ^ 32) →
    all_below count (λ i. is_step (word words (start + i) % 2 ^ 32) (word words (start + place_words + i))) ≡
    all_below count (λ i. is_step (word words (start + i)) (word words (start + i + place_words)))
words_step words start count small =
    ap (all_below count)
    (fun_ext
    (λ i.
    let few : word words (start + i) < 2 ^ 32 = small (start + i) in
    let same : word words (start + i) % 2 ^ 32 ≡ word words (start + i) = omega arith in
    let there : start + place_words + i ≡ start + i + place_words = omega arith in
    rw (same, there)))

-- a number that changes by steps up to an end, and does not come to the greatest word
module _ (f : ℕ → ℕ) (n : ℕ) (stepwise : (j : ℕ) → j < n → is_step (f j) (f (suc j)) ≡ true) (small : f 0 + n < 2 ^ 32) where
  one_step : (j : ℕ) → j < n → f j ≤ f 0 + j → (f j ≤ f (suc j)) × (f (suc j) ≤ f j + 1)
  one_step j l low =
      step_told (f j) (f (suc j)) (stepwise j l) (λ (same : f (suc j) ≡ f j). (omega arith, omega arith))
      (λ (next : f (suc j) ≡ (f j + 1) % 2 ^ 32). (omega arith, omega arith))

  -- it rises from its start, and to its end
  from_start : (j : ℕ) → j ≤ n → (f 0 ≤ f j) × (f j ≤ f 0 + j)
  from_start zero l = (omega arith, omega arith)
  from_start (suc j) l =
      let (above, below) = from_start j (omega arith) in
      let (least, most) = one_step j (omega arith) below in
      (omega arith, omega arith)

  to_end : (k j : ℕ) → j + k ≡ n → (f j ≤ f n) × (f n ≤ f j + k)
  to_end zero j e = let same : j ≡ n = omega arith in rw same (omega arith, omega arith)
  to_end (suc k) j e =
      let (above, below) = from_start j (omega arith) in
      let (least, most) = one_step j (omega arith) below in
      let (under, over) = to_end k (suc j) (omega arith) in
      (omega arith, omega arith)

  -- so it stays the same where it ends as it starts, and goes up by one each time where it ends as high as that leads
  stays : f n ≡ f 0 → (j : ℕ) → j ≤ n → f j ≡ f 0
  stays e j l =
      let (above, below) = from_start j l in
      let (under, over) = to_end (n - j) j (omega arith) in
      omega arith

  climbs : f n ≡ f 0 + n → (j : ℕ) → j ≤ n → f j ≡ f 0 + j
  climbs e j l =
      let (above, below) = from_start j l in
      let (under, over) = to_end (n - j) j (omega arith) in
      omega arith

module _ (table : List ℕ) where
  abbrev step_at : ℕ → Bool
  step_at i = is_step (word table i) (word table (i + place_words))

  -- each word of the places from one up to another steps to that of the next place
  abbrev pub Steps : ℕ → ℕ → Type 0
  Steps first end = (i : ℕ) → place_words * first ≤ i → i < place_words * end → step_at i ≡ true

  rising_steps : (first count : ℕ) → rising table first count ≡ true → Steps first (first + count)
  rising_steps first count h i from before =
      let there : place_words * first + (i - place_words * first) ≡ i = omega arith in
      rw there at (all_below_at (place_words * count) (λ j. step_at (place_words * first + j)) h (i - place_words * first) (omega arith))

  steps_rising : (first count : ℕ) → Steps first (first + count) → rising table first count ≡ true
  steps_rising first count h =
      all_below_lem (place_words * count) (λ j. step_at (place_words * first + j)) (λ j l. h (place_words * first + j) (omega arith) (omega arith))

  module _ (first : ℕ) where
    steps_on : (at end : ℕ) → Steps first at → Steps at end → Steps first end
    steps_on at end before after i from l =
        cases (ltb i (place_words * at)) (λ (t : ltb i (place_words * at) ≡ true). before i from (ltb-true i (place_words * at) t))
        (λ (f : ltb i (place_words * at) ≡ false). after i (ltb-false i (place_words * at) f) l)

    -- so many looks, one after the other
    abbrev looks : ℕ → Bool
    looks k = rising table (first + steps * k) steps

    looks_steps : (n : ℕ) → all_below n looks ≡ true → Steps first (first + steps * n)
    looks_steps n h i from before =
        let k = (i - place_words * first) / (place_words * steps) in
        rising_steps (first + steps * k) steps (all_below_at n looks h k (omega arith)) i (omega arith) (omega arith)

    pub looks_broken : (last n : ℕ) (answer : Bool) → first + steps * n ≤ last → answer ≡ all_below n looks → answer ≡ false → answer ≡ rising table first (last - first)
    looks_broken last n answer within asked f =
        cases (rising table first (last - first))
        (λ (t : rising table first (last - first) ≡ true).
        not_both (all_below n looks)
        (all_below_lem n looks
        (λ k l. steps_rising (first + steps * k) steps (λ i past b. rising_steps first (last - first) t i (omega arith) (omega arith))))
        (sym asked ∙ f))
        (λ (g : rising table first (last - first) ≡ false). f ∙ sym g)

    pub looks_done : (last n : ℕ) (looked answer : Bool) → first + steps ≤ last → last ≤ first + steps * n + steps → looked ≡ all_below n looks → looked ≡ true →
        answer ≡ rising table (last - steps) steps → answer ≡ rising table first (last - first)
    looks_done last n looked answer long late is_looked t asked =
        let before = looks_steps n (sym is_looked ∙ t) in
        asked ∙
        same_test (rising table (last - steps) steps) (rising table first (last - first))
        (λ (t : rising table (last - steps) steps ≡ true).
        let after = rising_steps (last - steps) steps t in
        steps_rising first (last - first) (λ i from l. steps_on (first + steps * n) last before (λ j past b. after j (omega arith) (omega arith)) i from (omega arith)))
        (λ (t : rising table first (last - first) ≡ true).
        steps_rising (last - steps) steps (λ i from l. rising_steps first (last - first) t i (omega arith) (omega arith)))

-- a stretch of a place table
module _ (table : List ℕ) {first last : ℕ} (stretch : Stretch first last) where
  abbrev fixed : ℕ → Bool
  fixed = fixed_place (places_in table)

  abbrev expected : ℕ → Cap
  expected p = parentless (p - stretch.begin) stretch.permissions

  fixed_held : (p : ℕ) → first ≤ p → p ≤ last → fixed p ≡ true → cap_at table p ≡ expected p
  fixed_held p g l h =
      let inside = stretch.in_domain in
      let there : domain_of p ≡ hypervisor = omega arith in
      boot_cap_lem (places_in table) p h there ∙ stretch.as_boot p g l

  held_fixed : (p : ℕ) → first ≤ p → p ≤ last → cap_at table p ≡ expected p → fixed p ≡ true
  held_fixed p g l e =
      let inside = stretch.in_domain in
      sym
      (fixed_same (places_in table) p true (cap_at table p) (boot_cap p) (omega arith) refl refl
      (rw (e, stretch.as_boot p g l, eq-eqb (p - stretch.begin) (p - stretch.begin) refl, eq-eqb stretch.permissions stretch.permissions refl)))

  -- places as at boot step
  held_step : (p k : ℕ) → k < place_words → first ≤ p → p < last → cap_at table p ≡ expected p → cap_at table (p + 1) ≡ expected (p + 1) →
      is_step (word table (place_words * p + k)) (word table (place_words * (p + 1) + k)) ≡ true
  unfolding cap_at
  held_step p zero b g l e f =
      let from = stretch.after_begin in
      let inside = stretch.in_domain in
      let before : word table (place_words * p) ≡ p - stretch.begin = ap (λ (cap : Cap). cap.resource) e in
      let after : word table (place_words * (p + 1)) ≡ p + 1 - stretch.begin = ap (λ (cap : Cap). cap.resource) f in
      rw (add-zero (place_words * p), add-zero (place_words * (p + 1)))
      (step_up (word table (place_words * p)) (word table (place_words * (p + 1))) (omega arith))
  held_step p (suc zero) b g l e f =
      step_level (word table (place_words * p + 1)) (word table (place_words * (p + 1) + 1))
      (ap (λ (cap : Cap). cap.permissions) f ∙ sym (ap (λ (cap : Cap). cap.permissions) e))
  held_step p (suc (suc zero)) b g l e f =
      step_level (word table (place_words * p + 2)) (word table (place_words * (p + 1) + 2))
      (ap (λ (cap : Cap). cap.parent) f ∙ sym (ap (λ (cap : Cap). cap.parent) e))
  held_step p (suc (suc (suc zero))) b g l e f =
      step_level (word table (place_words * p + 3)) (word table (place_words * (p + 1) + 3))
      (ap (λ (cap : Cap). cap.depth) f ∙ sym (ap (λ (cap : Cap). cap.depth) e))
  held_step p (suc (suc (suc (suc k)))) b g l e f = absurd (omega arith)

  held_steps : ((p : ℕ) → first ≤ p → p ≤ last → cap_at table p ≡ expected p) → Steps table first last
  held_steps held i from before =
      let p = i / place_words in
      let k = i % place_words in
      let there : place_words * p + k ≡ i = omega arith in
      let next : place_words * (p + 1) + k ≡ i + place_words = omega arith in
      let g : first ≤ p = omega arith in
      let l : p < last = omega arith in
      let small : k < place_words = omega arith in
      rw (there, next) at (held_step p k small g l (held p g (omega arith)) (held (p + 1) (omega arith) (omega arith)))

  -- places that step between an end and another as at boot are as at boot
  module _ (stepwise : Steps table first last) (at_first : cap_at table first ≡ expected first) (at_last : cap_at table last ≡ expected last) where
    abbrev column : ℕ → ℕ → ℕ
    column k j = word table (place_words * (first + j) + k)

    column_steps : (k : ℕ) → k < place_words → (j : ℕ) → j < last - first → is_step (column k j) (column k (suc j)) ≡ true
    column_steps k b j l =
        let next : place_words * (first + j) + k + place_words ≡ place_words * (first + suc j) + k = omega arith in
        rw next at (stepwise (place_words * (first + j) + k) (omega arith) (omega arith))

    start_there : first + 0 ≡ first
    start_there = omega arith

    end_there : first + (last - first) ≡ last
    end_there = let far = stretch.long in omega arith

    held_between : (j : ℕ) → j ≤ last - first → cap_at table (first + j) ≡ expected (first + j)
    unfolding cap_at
    held_between j l =
        let from = stretch.after_begin in
        let few = stretch.few in
        let inside = stretch.in_domain in
        let n = last - first in
        let resource_first : column 0 0 ≡ first - stretch.begin =
        rw (start_there, add-zero (place_words * first)) (ap (λ (cap : Cap). cap.resource) at_first) in
        let resource_last : column 0 n ≡ last - stretch.begin =
        rw (end_there, add-zero (place_words * last)) (ap (λ (cap : Cap). cap.resource) at_last) in
        let permissions_first : column 1 0 ≡ stretch.permissions = rw start_there (ap (λ (cap : Cap). cap.permissions) at_first) in
        let permissions_last : column 1 n ≡ stretch.permissions = rw end_there (ap (λ (cap : Cap). cap.permissions) at_last) in
        let parent_first : column 2 0 ≡ 0 = rw start_there (ap (λ (cap : Cap). cap.parent) at_first) in
        let parent_last : column 2 n ≡ 0 = rw end_there (ap (λ (cap : Cap). cap.parent) at_last) in
        let depth_first : column 3 0 ≡ 0 = rw start_there (ap (λ (cap : Cap). cap.depth) at_first) in
        let depth_last : column 3 n ≡ 0 = rw end_there (ap (λ (cap : Cap). cap.depth) at_last) in
        let climbed : column 0 j ≡ column 0 0 + j = climbs (column 0) n (column_steps 0 (omega arith)) (omega arith) (omega arith) j l in
        let resource : column 0 j ≡ first + j - stretch.begin = omega arith in
        let resource_there : word table (place_words * (first + j)) ≡ first + j - stretch.begin = rw (add-zero (place_words * (first + j))) at resource in
        let permissions : column 1 j ≡ stretch.permissions =
        stays (column 1) n (column_steps 1 (omega arith)) (omega arith) (permissions_last ∙ sym permissions_first) j l ∙ permissions_first in
        let parent : column 2 j ≡ 0 = stays (column 2) n (column_steps 2 (omega arith)) (omega arith) (parent_last ∙ sym parent_first) j l ∙ parent_first in
        let depth : column 3 j ≡ 0 = stays (column 3) n (column_steps 3 (omega arith)) (omega arith) (depth_last ∙ sym depth_first) j l ∙ depth_first in
        λ i. record { resource = resource_there i; permissions = permissions i; parent = parent i; depth = depth i }

  -- the answers
  pub ends_broken : (at_first at_last : Bool) → at_first ≡ fixed first → at_last ≡ fixed last → (at_first && at_last) ≡ false → (at_first && at_last) ≡ all_below (last + 1) fixed
  ends_broken at_first at_last e f broken =
      let far = stretch.long in
      cases (all_below (last + 1) fixed)
      (λ (t : all_below (last + 1) fixed ≡ true).
      not_both (at_first && at_last)
      (both at_first at_last (e ∙ all_below_at (last + 1) fixed t first (omega arith)) (f ∙ all_below_at (last + 1) fixed t last (omega arith)))
      broken)
      (λ (g : all_below (last + 1) fixed ≡ false). broken ∙ sym g)

  pub stretch_decides : (at_first at_last answer : Bool) → at_first ≡ fixed first → at_last ≡ fixed last → (at_first && at_last) ≡ true →
      all_below first fixed ≡ true → answer ≡ rising table first (last - first) → answer ≡ all_below (last + 1) fixed
  stretch_decides at_first at_last answer e f kept before asked =
      let far = stretch.long in
      let starts : cap_at table first ≡ expected first = fixed_held first (omega arith) (omega arith) (sym e ∙ and_left at_first at_last kept) in
      let stops : cap_at table last ≡ expected last = fixed_held last (omega arith) (omega arith) (sym f ∙ and_right at_first at_last kept) in
      asked ∙
      same_test (rising table first (last - first)) (all_below (last + 1) fixed)
      (λ (t : rising table first (last - first) ≡ true).
      let stepwise : Steps table first last = λ i from l. rising_steps table first (last - first) t i from (omega arith) in
      all_below_lem (last + 1) fixed
      (λ p l.
      cases (ltb p first) (λ (b : ltb p first ≡ true). all_below_at first fixed before p (ltb-true p first b))
      (λ (g : ltb p first ≡ false).
      let from : first ≤ p = ltb-false p first g in
      let there : first + (p - first) ≡ p = omega arith in
      held_fixed p from (omega arith) (rw there at (held_between stepwise starts stops (p - first) (omega arith))))))
      (λ (t : all_below (last + 1) fixed ≡ true).
      steps_rising table first (last - first)
      (λ i from l.
      held_steps (λ p g b. fixed_held p g b (all_below_at (last + 1) fixed t p (omega arith))) i from (omega arith)))
