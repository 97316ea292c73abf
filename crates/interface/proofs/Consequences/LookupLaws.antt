-- A selector that holds nothing is reported as nothing: what LOOKUP answers, that the order of its range is the largest, and that it is 6 at most.
use Rattle.std.specs.Prelude.{Ok}
use Prim.Native.Nat.{ℕ, zero, suc, ◌+◌, ◌-◌, ◌^◌, ◌≤◌, ◌<◌}
use mathlib.Core.Path.{◌≡◌, refl, sym, ap, ◌∙◌}
use mathlib.Core.Bool.{Bool, true, false, not, ◌&&◌, true≢false}
use mathlib.Core.Logic.{◌↔◌}
use mathlib.Core.List.{[]}
use native.Mathlib.Omega.{arith}
use lib.Dec.{eqb, ltb}
use borrow.Author.Tests.{eqb-true, eq-eqb, ltb-true, not-true, not-false}
use lib.Pow.{pow_pos}
use Rattle.words.specs.Sizes.{domains, object, page_order, greatest_order, selectors, places, place_of, space_of, records}
use Rattle.words.specs.Ranges.{rounded}
use Rattle.words.proofs.RangeLaws.{aligned_divides, rounded_divides, stays_inside}
use Rattle.words.proofs.SizeLaws.{selectors_few}
use Rattle.words.proofs.PlaceLaws.{is_place}
use Rattle.descriptor.specs.Descriptors.{Proper}
use Rattle.descriptor.proofs.DescriptorLaws.{fields_word, good_proper}
use Rattle.descriptor.specs.declared.Range.{Range}
use Rattle.descriptor.specs.declared.Reading.{Reading}
use Rattle.descriptor.specs.declared.Reading.TheVariants.{Null, Malformed, Good}
use Rattle.reply.specs.declared.Refusal.TheVariants.{BadPar}
use Rattle.interface.specs.Places.{Cap, State, live, free, kind_of}
use Rattle.interface.specs.RangeDescriptors.{type_of, order_field, describe, reading, malformed}
use Rattle.interface.specs.Verdicts.{Call, LOOKUP, grant, caller_domain, reply_of}
use Rattle.interface.specs.Lookup.{uniform, largest, around, space_caps, found, lookup}
use Rattle.interface.specs.Rules.{hypercall, rules}
use Rattle.interface.specs.Consequences.{names_nothing, Even, LargestOrder, NothingIsNothing, AnswersFew}
use Rattle.interface.proofs.Basics.BoolLaws.{cases, not_both, and_left, and_right}
use Rattle.interface.proofs.Basics.BelowLaws.{below_suc, all_below_at, all_below_lem}
use Rattle.interface.proofs.Sound.Soundness.{Sound, sound_facts}
use Rattle.interface.proofs.Sound.PlaceFacts.{live_facts}
use Rattle.interface.proofs.Sound.GreatestLaws.{permissions_most, five_bits}
use Rattle.interface.proofs.Sound.SoundFacts.{home, ec_home}
use Rattle.interface.proofs.Refusals.MalformedLaws.{order_inside}
use Rattle.interface.proofs.Tables.VerdictLaws.{required, rule_grants, rule_checked, succeeds, success_same, rule_succeeds}

module _ (caps : ℕ → Cap) (selector : ℕ) where
  -- what a uniform range of an order tells of each of its places
  uniform_at : (order : ℕ) → uniform caps selector order ≡ true → Even caps selector order
  unfolding uniform
  uniform_at order u i l =
      let base = rounded order selector in
      let a : ℕ → Bool = λ k. live (caps (base + k)) in
      let b : ℕ → Bool = λ k. eqb (caps (base + k)).permissions (caps selector).permissions in
      let d : ℕ → Bool = λ k. eqb (caps (base + k)).resource ((caps base).resource + k) in
      let All_three = all_below_at (2 ^ order) (λ k. a k && b k && d k) u i l in
      let first_two = and_left (a i && b i) (d i) All_three in (
        and_left (a i) (b i) first_two,
        eqb-true (caps (base + i)).permissions (caps selector).permissions (and_right (a i) (b i) first_two),
        eqb-true (caps (base + i)).resource ((caps base).resource + i) (and_right (a i && b i) (d i) All_three),
      )

  -- and back
  even_uniform : (order : ℕ) → Even caps selector order → uniform caps selector order ≡ true
  unfolding uniform
  even_uniform order even =
      let base = rounded order selector in
      all_below_lem (2 ^ order) _
      (λ i l.
      let at = even i l in
      rw (
        at.0,
        eq-eqb (caps (base + i)).permissions (caps selector).permissions at.1,
        eq-eqb (caps (base + i)).resource ((caps base).resource + i) at.2,
      ))

  -- a live place alone is uniform
  uniform_one : live (caps selector) ≡ true → uniform caps selector 0 ≡ true
  unfolding uniform
  uniform_one t =
      let cap = caps selector in
      all_below_lem 1 _
      (λ i l.
      let base : rounded 0 selector ≡ selector = omega arith in
      let at : rounded 0 selector + i ≡ selector = omega arith in
      let rises : cap.resource ≡ cap.resource + i = omega arith in
      rw (at, base, t, eq-eqb cap.permissions cap.permissions refl, eq-eqb cap.resource (cap.resource + i) rises))

  -- the largest order is at most the bound, its range around a live place is uniform, and no larger one is up to the bound
  largest_small : (bound : ℕ) → largest caps selector bound ≤ bound
  unfolding largest
  largest_small zero = omega arith
  largest_small (suc bound) =
      cases (uniform caps selector (suc bound)) (λ (t : uniform caps selector (suc bound) ≡ true). rw t (omega arith))
      (λ (f : uniform caps selector (suc bound) ≡ false). rw f (omega (arith, largest_small bound)))

  largest_uniform : live (caps selector) ≡ true → (bound : ℕ) → uniform caps selector (largest caps selector bound) ≡ true
  unfolding largest
  largest_uniform l zero = uniform_one l
  largest_uniform l (suc bound) =
      cases (uniform caps selector (suc bound)) (λ (t : uniform caps selector (suc bound) ≡ true). rw t t)
      (λ (f : uniform caps selector (suc bound) ≡ false). rw f (largest_uniform l bound))

  past_largest : (bound larger : ℕ) → largest caps selector bound < larger → larger ≤ bound → uniform caps selector larger ≡ false
  unfolding largest
  past_largest zero larger l b = absurd (omega arith)
  past_largest (suc bound) larger l b =
      cases (uniform caps selector (suc bound))
      (λ (t : uniform caps selector (suc bound) ≡ true). let past : suc bound < larger = rw t at l in absurd (omega arith))
      (λ (f : uniform caps selector (suc bound) ≡ false).
      below_suc larger (suc bound) (omega arith) (λ (under : larger < suc bound). past_largest bound larger (rw f at l) (omega arith))
      (λ (e : larger ≡ suc bound). rw e f))

module _ (s : State) (domain : ℕ) (range : Range) where
  -- the order of the range that is found for a live place, which is the largest
  abbrev order_found : ℕ
  order_found = largest (space_caps s domain range.space) range.base (greatest_order range.space)

  found_largest : live (space_caps s domain range.space range.base) ≡ true → LargestOrder s domain range order_found
  found_largest l =
      let caps = space_caps s domain range.space in
      record {
        order_small = largest_small caps range.base (greatest_order range.space);
        all_live = uniform_at caps range.base order_found (largest_uniform caps range.base l (greatest_order range.space));
        no_larger =
            λ larger past small even.
            not_both (uniform caps range.base larger) (even_uniform caps range.base larger even)
            (past_largest caps range.base (greatest_order range.space) larger past small);
      }

-- the resource of a live place is one of as many as there are pages
resource_few : (s : State) → Sound s → (p : ℕ) → p < places → live (s.caps p) ≡ true → (s.caps p).resource < 2 ^ page_order
resource_few s k p l alive =
    let resource = (s.caps p).resource in
    let named = (live_facts s p (k.lives p l) alive).names in
    cases (eqb (space_of p) object)
    (λ (t : eqb (space_of p) object ≡ true).
    ltb-true resource records (and_left (ltb resource records) (not (eqb (kind_of s resource) free)) (rw t at named)))
    (λ (f : eqb (space_of p) object ≡ false). ltb-true resource (2 ^ page_order) (rw f at named))

-- so a range whose places name resources of their own has no order above theirs, whatever its space
module _ (s : State) (k : Sound s) (domain : ℕ) (small : domain < domains) (range : Range) (proper : Proper range) (order : ℕ) (largest_so : LargestOrder s domain range order) where
  abbrev begin : ℕ
  begin = rounded order range.base

  begin_small : begin < selectors range.space
  begin_small = omega (arith, proper.ends_inside, pow_pos range.order)

  place_small : (i : ℕ) → i < 2 ^ order → place_of domain range.space (begin + i) < places
  place_small i l =
      is_place domain range.space (begin + i) small proper.space_small
      (stays_inside (greatest_order range.space) order begin i largest_so.order_small ((aligned_divides order begin).1 (rounded_divides order range.base)) begin_small l)

  order_few : order ≤ page_order
  order_few =
      let last = 2 ^ order - 1 in
      let some : 0 < 2 ^ order = pow_pos order in
      let inside : last < 2 ^ order = omega arith in
      let even = largest_so.all_live last inside in
      order_inside order (space_caps s domain range.space begin).resource
      (omega (arith, even.2, resource_few s k (place_of domain range.space (begin + last)) (place_small last inside) even.0))

  -- the descriptor that is answered has that order
  order_told : (answer : ℕ) →
      answer ≡ describe (record { space = range.space; base = begin; order = order; mask = (s.caps (place_of domain range.space range.base)).permissions }) →
      live (s.caps (place_of domain range.space range.base)) ≡ true → order_field answer ≤ 6
  order_told answer is alive =
      let place = place_of domain range.space range.base in
      let there : place < places = is_place domain range.space range.base small proper.space_small (omega (arith, proper.ends_inside, pow_pos range.order)) in
      let mask_small : (s.caps place).permissions < 2 ^ 5 = omega (arith, permissions_most s place k there alive, five_bits (space_of place)) in
      let fields = fields_word (type_of range.space) (s.caps place).permissions order begin (omega (arith, proper.space_small)) mask_small (omega (arith, order_few))
      (omega (arith, begin_small, selectors_few range.space)) in
      rw (is, fields.2) order_few

-- nothing is found exactly for a descriptor that names nothing
found_nothing : (s : State) (domain : ℕ) (read : Reading) → malformed read ≡ false → (found s domain read ≡ 0) ↔ (names_nothing s domain read ≡ true)
unfolding found around
found_nothing s domain Null m = (λ _. refl, λ _. refl)
found_nothing s domain Malformed m = absurd (true≢false m)
found_nothing s domain (Good range) m =
    let alive = live (s.caps (place_of domain range.space range.base)) in
    cases alive (λ (t : alive ≡ true). rw t (λ z. absurd (omega arith), λ z. absurd (true≢false (sym z))))
    (λ (f : alive ≡ false). rw f (λ _. refl, λ _. refl))

-- a LOOKUP that succeeds answers what is found
lookup_granted : (s : State) (c : Call) (answer : ℕ) → c.number ≡ LOOKUP → reply_of (rules s c) ≡ Ok answer →
    rules s c ≡ grant (found s (caller_domain s c) (reading c.first)) []
unfolding hypercall lookup
lookup_granted s c answer n h =
    let read = reading c.first in
    let by_rule = rule_succeeds s c answer lookup (rw n) h in
    by_rule ∙ succeeds (not (malformed read)) BadPar (grant (found s (caller_domain s c) read) []) answer (λ z. omega arith) (ap reply_of (sym by_rule) ∙ h)

pub nothing_is_nothing : NothingIsNothing
unfolding hypercall lookup found around
nothing_is_nothing s c answer n h =
    let domain = caller_domain s c in
    let read = reading c.first in
    let last = grant (found s domain read) [] in
    let granted = lookup_granted s c answer n h in
    let well_formed_lem = (required last refl (not (malformed read)) BadPar last (rule_grants last refl s c granted lookup (rw n))).0 in
    let is : answer ≡ found s domain read = success_same (sym h ∙ ap reply_of granted) in (
      rw is (found_nothing s domain read (not-true (malformed read) well_formed_lem)),
      (λ range e f.
          let alive = not-false (live (space_caps s domain range.space range.base)) f in
          (order_found s domain range, found_largest s domain range alive, is ∙ rw (e, alive))),
    )

-- no range of a larger order than 6 is answered
answered_few : (s : State) (k : Sound s) (domain : ℕ) → domain < domains → (word answer : ℕ) → answer ≡ found s domain (reading word) → order_field answer ≤ 6
unfolding found around
answered_few s k domain small word answer is = go (reading word) refl
  where
    go : (read : Reading) → reading word ≡ read → order_field answer ≤ 6
    go Null e = rw (is, e) (omega arith)
    go Malformed e = rw (is, e) (omega arith)
    go (Good range) e =
        let alive = live (space_caps s domain range.space range.base) in
        cases alive
        (λ (t : alive ≡ true).
        order_told s k domain small range (good_proper word range e) (order_found s domain range) (found_largest s domain range t) answer (is ∙ rw (e, t)) t)
        (λ (f : alive ≡ false). rw (is, e, f) (omega arith))

pub answers_few : AnswersFew
unfolding hypercall
answers_few s c answer n h =
    let granted = lookup_granted s c answer n h in
    let checked = rule_checked (grant (found s (caller_domain s c) (reading c.first)) []) refl s c granted lookup (rw n) in
    let k = sound_facts s checked.0 in
    answered_few s k (caller_domain s c) (home s k (caller_domain s c) (ec_home s k c.caller checked.1)).small c.first answer (success_same (sym h ∙ ap reply_of granted))
