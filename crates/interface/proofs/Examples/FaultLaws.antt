-- The first fault of states near boot's: of one with boot's places, by its records alone; of one with boot's records, by the places among which it differs.
use Prim.Native.Nat.{ℕ, ◌+◌, ◌-◌, ◌≤◌, ◌<◌}
use mathlib.Core.Path.{◌≡◌, refl, ◌∙◌}
use mathlib.Core.Logic.{◌⊎◌, ⊎_elim}
use mathlib.Core.Bool.{Bool, true, false, not, ◌||◌}
use mathlib.Core.List.{List, [], ◌∷◌, ◌++◌}
use native.Mathlib.Omega.{arith}
use lib.Dec.{leb, ltb}
use lib.ListN.{take, drop}
use borrow.Author.Tests.{leb-true, lt-ltb, ltb-true, ltb-false}
use Rattle.words.specs.Sizes.{places, records}
use Rattle.reply.specs.declared.Fault.{Fault}
use Rattle.reply.specs.declared.Fault.TheVariants.{AtRecord, AtPlace}
use Rattle.std.specs.Prelude.{if◌then◌else◌, Option, Some, None}
use Rattle.interface.specs.Basics.{lowest}
use Rattle.interface.specs.Places.{Cap, State, live}
use Rattle.interface.specs.Boot.{boot}
use Rattle.interface.specs.Damage.{Rule, fixed_record, fixed_place, has_pd, null_place, live_place, shallow, rules_of_damage, first_fault}
use Rattle.interface.specs.Effects.{among}
use Rattle.interface.proofs.Basics.BoolLaws.{cases, and_right, or_none_left, or_none_right}
use Rattle.interface.proofs.Basics.BelowLaws.{lowest_failure, failure_fails, below_failure, failure_at, all_hold}
use Rattle.interface.proofs.Sound.Soundness.{OfRecords, OfPlaces, Kept, Sound, sound_facts, record_rules_lem, trivial}
use Rattle.interface.proofs.History.BootLaws.{utcb_place, information_place, boot_sound, boot_parent}

abbrev at_boot : Sound boot
at_boot = sound_facts boot boot_sound

-- the first fault of a state's records, whatever its places
unfoldable pub record_fault : State → List Rule → Option Fault
record_fault s [] = None
record_fault s (rule ∷ rules) =
    let r = lowest records (λ i. not (rule.record_keeps_lem s i)) in
    let later = record_fault s rules in
    if ltb r records then Some (AtRecord rule.number r) else later

abbrev PlacesKeep : State → List Rule → Type 0
PlacesKeep s [] = Unit {0}
PlacesKeep s (rule ∷ rules) = OfPlaces (rule.place_keeps_lem s) × PlacesKeep s rules

-- where the places keep some rules, a fault of the records by these comes first
record_first : (s : State) (rules more : List Rule) → PlacesKeep s rules → (number r : ℕ) → record_fault s rules ≡ Some (AtRecord number r) →
    first_fault s (rules ++ more) ≡ Some (AtRecord number r)
unfolding first_fault record_fault
record_first s [] more kept number r h = let z : ◌≡◌ {A = ℕ} 0 1 = cc in absurd (omega arith)
record_first s (rule ∷ rules) more kept number r h =
    let failure = lowest_failure records (rule.record_keeps_lem s) in
    cases (ltb failure records) (λ (t : ltb failure records ≡ true). rw t (rw t at h))
    (λ (f : ltb failure records ≡ false).
    rw (f, all_hold places (rule.place_keeps_lem s) kept.0) (record_first s rules more kept.1 number r (rw f at h)))

-- the rules up to the ninth are those that records keep, and domain 0
abbrev pub record_rules : List Rule
record_rules = take 8 rules_of_damage

pub record_fault_lem : (objects : ℕ → ℕ → ℕ) (number r : ℕ) → record_fault (record { caps = boot.caps; objects = objects }) record_rules ≡ Some (AtRecord number r) →
    first_fault (record { caps = boot.caps; objects = objects }) rules_of_damage ≡ Some (AtRecord number r)
unfolding fixed_place
record_fault_lem objects =
    record_first (record { caps = boot.caps; objects = objects }) record_rules (drop 8 rules_of_damage)
    (at_boot.fixed_places, (trivial, (trivial, (trivial, (trivial, (trivial, (trivial, (trivial, tt))))))))

-- the first fault of as many places as `size` says from `first` on, whatever the records
unfoldable pub place_fault : ℕ → ℕ → State → List Rule → Option Fault
place_fault first size s [] = None
place_fault first size s (rule ∷ rules) =
    let k = lowest size (λ i. not (rule.place_keeps_lem s (first + i))) in
    let later = place_fault first size s rules in
    if ltb k size then Some (AtPlace rule.number (first + k)) else later

module _ (first size : ℕ) (fit : first + size ≤ places) where
  -- what the other places tell of a test
  abbrev Others : (ℕ → Bool) → Type 0
  Others test = (p : ℕ) → p < places → among first size p ≡ false → test p ≡ true

  abbrev OthersKeep : State → List Rule → Type 0
  OthersKeep s [] = Unit {0}
  OthersKeep s (rule ∷ rules) = (OfRecords (rule.record_keeps_lem s) × Others (rule.place_keeps_lem s)) × OthersKeep s rules

  -- a test that the other places pass holds below a number where it holds of those up to it
  module _ (test : ℕ → Bool) (others : Others test) where
    abbrev k : ℕ
    k = lowest_failure size (λ i. test (first + i))

    passes_below : (p : ℕ) → p < places → p < first + k → test p ≡ true
    passes_below p l b =
        cases (leb first p)
        (λ (t : leb first p ≡ true).
        let above = leb-true first p t in
        let back : first + (p - first) ≡ p = omega arith in
        rw back at (below_failure size (λ i. test (first + i)) (p - first) (omega arith)))
        (λ (f : leb first p ≡ false). others p l (rw f))

    failure_among : ltb k size ≡ true → lowest_failure places test ≡ first + k
    failure_among t =
        let l = ltb-true k size t in
        failure_at places test (first + k) (omega arith) (failure_fails size (λ i. test (first + i)) l) (λ p b. passes_below p (omega arith) b)

    none_fails : ltb k size ≡ false → ltb (lowest_failure places test) places ≡ false
    none_fails f =
        all_hold places test
        (λ p l.
        cases (among first size p)
        (λ (t : among first size p ≡ true).
        passes_below p l (omega (arith, ltb-false k size f, ltb-true p (first + size) (and_right (leb first p) (ltb p (first + size)) t))))
        (λ (g : among first size p ≡ false). others p l g))

  -- where the records and the other places keep some rules, the first fault is that of those places
  place_first : (s : State) (rules : List Rule) → OthersKeep s rules → first_fault s rules ≡ place_fault first size s rules
  unfolding first_fault place_fault
  place_first s [] kept = refl
  place_first s (rule ∷ rules) kept =
      let test = rule.place_keeps_lem s in
      let k = lowest_failure size (λ i. test (first + i)) in
      let recorded = all_hold records (rule.record_keeps_lem s) kept.0.0 in
      cases (ltb k size)
      (λ (t : ltb k size ≡ true).
      let l = ltb-true k size t in rw (recorded, failure_among test kept.0.1 t, lt-ltb (first + k) places (omega arith), t))
      (λ (f : ltb k size ≡ false). rw (recorded, none_fails test kept.0.1 f, f) (place_first s rules kept.1))

-- rules that a state keeps are passed over, also after another
passed : (s : State) (kept more : List Rule) → Kept s kept → first_fault s (kept ++ more) ≡ first_fault s more
unfolding first_fault
passed s [] more k = refl
passed s (rule ∷ kept) more k =
    rw (all_hold records (rule.record_keeps_lem s) k.0.0, all_hold places (rule.place_keeps_lem s) k.0.1) (passed s kept more k.1)

passed_after : (s : State) (rule : Rule) (kept more : List Rule) → Kept s kept → first_fault s (rule ∷ (kept ++ more)) ≡ first_fault s (rule ∷ more)
unfolding first_fault
passed_after s rule kept more k = rw (passed s kept more k)

-- the rules that places keep
abbrev pub place_rules : List Rule
place_rules = take 1 rules_of_damage ++ drop 8 rules_of_damage

module _ (caps : ℕ → Cap) (first size : ℕ) (fit : first + size ≤ places) (unchanged : (p : ℕ) → among first size p ≡ false → caps p ≡ boot.caps p)
    (parents_apart : (among first size utcb_place || among first size information_place) ≡ false) where
  abbrev near : State
  near = record { caps = caps; objects = boot.objects }

  fixed_kept : Others first size fit (fixed_place near)
  unfolding fixed_place
  fixed_kept p l f = rw (unchanged p f) (at_boot.fixed_places p l)

  null_kept : Others first size fit (null_place near)
  unfolding null_place
  null_kept p l f = rw (unchanged p f) (at_boot.nulls p l)

  live_kept : Others first size fit (live_place near)
  unfolding live_place has_pd
  live_kept p l f =
      cases (live (boot.caps p))
      (λ (t : live (boot.caps p) ≡ true).
      ⊎_elim (λ (none : (boot.caps p).parent ≡ 0). rw (unchanged p f, t, none) (rw (t, none) at (at_boot.lives p l)))
      (λ (one : ((boot.caps p).parent - 1 ≡ utcb_place) ⊎ ((boot.caps p).parent - 1 ≡ information_place)).
      let apart : among first size ((boot.caps p).parent - 1) ≡ false =
      ⊎_elim (λ (e : (boot.caps p).parent - 1 ≡ utcb_place). rw e (or_none_left (among first size utcb_place) (among first size information_place) parents_apart))
      (λ (e : (boot.caps p).parent - 1 ≡ information_place). rw e (or_none_right (among first size utcb_place) (among first size information_place) parents_apart)) one
      in
      rw (unchanged p f, t, unchanged ((boot.caps p).parent - 1) apart) (rw t at (at_boot.lives p l)))
      (boot_parent p l t))
      (λ (g : live (boot.caps p) ≡ false). rw (unchanged p f, g))

  shallow_kept : Others first size fit (shallow near)
  unfolding shallow
  shallow_kept p l f = rw (unchanged p f) (at_boot.shallows p l)

  pub place_fault_lem : first_fault near rules_of_damage ≡ place_fault first size near place_rules
  unfolding record_rules_lem
  place_fault_lem =
      passed_after near (record { number = 2; record_keeps_lem = fixed_record; place_keeps_lem = fixed_place }) (drop 1 record_rules) (drop 8 rules_of_damage) (
        (at_boot.interrupts, trivial),
        (
          (at_boot.unnameds, trivial),
          (
            (at_boot.used_firsts, trivial),
            ((at_boot.pds, trivial), ((at_boot.ecs, trivial), ((at_boot.scs, trivial), ((at_boot.pts, trivial), tt)))),
          ),
        ),
      )
      ∙ place_first first size fit near place_rules
      ((at_boot.fixed_records, fixed_kept), ((trivial, null_kept), ((trivial, live_kept), ((trivial, shallow_kept), tt))))
