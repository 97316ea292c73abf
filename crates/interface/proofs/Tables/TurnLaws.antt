-- Laws of steps in turn: of two lists of steps, and of delegations, which leave the records alone and every place that is none of their destinations.
use Prim.Native.Nat.{ℕ, zero, suc, ◌+◌, ◌<◌}
use mathlib.Core.Path.{◌≡◌, refl, sym, ◌∙◌}
use mathlib.Core.Bool.{Bool, true, false}
use mathlib.Core.List.{List, [], ◌∷◌, ◌++◌}
use native.Mathlib.Omega.{arith}
use Rattle.reply.specs.declared.Refusal.{Refusal}
use Rattle.words.specs.Sizes.{domains, spaces, selectors, place_of, domain_of}
use Rattle.words.proofs.PlaceLaws.{is_place, domain_back, space_back}
use Rattle.reply.specs.Replies.{Reply}
use Rattle.interface.specs.Basics.{listed}
use Rattle.interface.specs.Places.{State}
use Rattle.interface.specs.Damage.{has_pd}
use Rattle.interface.specs.Effects.{Effect, give, fills, act, run, filled}
use Rattle.interface.specs.Verdicts.{Verdict, refuse, require◌else◌then◌, effects_of}
use Rattle.interface.proofs.Basics.BoolLaws.{cases}
use Rattle.interface.proofs.Basics.PutLaws.{put_other}
use Rattle.interface.proofs.Tables.Steps.{GiveFits, FitInTurn}

-- steps after steps: the state they leave, how many places they fill, and that they fit
pub run_append : (xs ys : List Effect) (s : State) → run (xs ++ ys) s ≡ run ys (run xs s)
unfolding run
run_append [] ys s = refl
run_append (x ∷ xs) ys s = run_append xs ys (act x s)

pub filled_append : (xs ys : List Effect) (s : State) → filled (xs ++ ys) s ≡ filled xs s + filled ys (run xs s)
unfolding filled run
filled_append [] ys s = omega arith
filled_append (x ∷ xs) ys s = rw (filled_append xs ys (act x s)) (omega arith)

pub fit_append : (xs ys : List Effect) (s : State) → FitInTurn xs s → FitInTurn ys (run xs s) → FitInTurn (xs ++ ys) s
unfolding run
fit_append [] ys s f g = g
fit_append (x ∷ xs) ys s f g = (f.0, fit_append xs ys (act x s) f.1 g)

-- a check of a rule: what holds of the refusal, and of what follows once the test holds, holds of the check
pub require_so : (P : Verdict → Type 0) (test : Bool) (refusal : Refusal) (next : Verdict) → P (refuse refusal) → (test ≡ true → P next) →
    P (require test else refusal then next)
require_so P true reply next r f = f refl
require_so P false reply next r f = r

-- its steps fit where they do once its test holds, and a refused call has none
pub require_fits : (s : State) (test : Bool) (refusal : Refusal) (next : Verdict) → (test ≡ true → FitInTurn (effects_of next) s) →
    FitInTurn (effects_of (require test else refusal then next)) s
require_fits s test reply next f = require_so (λ (verdict : Verdict). FitInTurn (effects_of verdict) s) test reply next tt f

-- whether a domain has a PD depends on the records alone
pub same_home : (s t : State) (domain : ℕ) → t.objects ≡ s.objects → has_pd s domain ≡ true → has_pd t domain ≡ true
unfolding has_pd
same_home s t domain e h = rw e h

-- a delegation between selectors of one space, into a domain with a PD, fits
pub give_fits : (s : State) (from to space a b : ℕ) → from < domains → to < domains → space < spaces → a < selectors space → b < selectors space →
    has_pd s to ≡ true → GiveFits s (place_of to space a) (place_of from space b)
give_fits s from to space a b f t l la lb h =
    record {
      destination_small = is_place to space a t l la;
      source_small = is_place from space b f l lb;
      same_space = space_back to space a l la ∙ sym (space_back from space b l lb);
      at_home = rw (domain_back to space a l la) h;
    }

-- a delegation changes no record, and no place but its destination
pub give_objects : (destination source mask : ℕ) (s : State) → (act (give destination source mask) s).objects ≡ s.objects
unfolding act
give_objects destination source mask s = refl

pub give_others : (destination source mask : ℕ) (s : State) (place : ℕ) → (place ≡ destination → ⊥) →
    (act (give destination source mask) s).caps place ≡ s.caps place
unfolding act
give_others destination source mask s place apart =
    cases (fills s.caps destination source mask) (λ (t : fills s.caps destination source mask ≡ true). rw (t, put_other))
    (λ (f : fills s.caps destination source mask ≡ false). rw f)

-- steps that fit in turn and leave the records alone
pub record PlaceSteps (effects : List Effect) (s : State) : Type 0 where
  pub fit : FitInTurn effects s
  pub objects_stay : (run effects s).objects ≡ s.objects

-- no steps are such, and such steps after such steps are
pub place_steps_none : (s : State) → PlaceSteps [] s
unfolding run
place_steps_none s = record { fit = tt; objects_stay = refl }

pub place_steps_append : (xs ys : List Effect) (s : State) → PlaceSteps xs s → PlaceSteps ys (run xs s) → PlaceSteps (xs ++ ys) s
place_steps_append xs ys s d e =
    record {
      fit = fit_append xs ys s d.fit e.fit;
      objects_stay = rw (run_append xs ys s) (e.objects_stay ∙ d.objects_stay);
    }

module _ (destination source mask : ℕ → ℕ) where
  -- one delegation for each number below one
  abbrev pub gives : ℕ → List Effect
  gives n = listed n (λ i. give (destination i) (source i) (mask i))

  -- they fit in turn where each fits the state before them
  pub gives_fit : (n : ℕ) (s : State) → ((i : ℕ) → i < n → GiveFits s (destination i) (source i)) → PlaceSteps (gives n) s
  unfolding listed run
  gives_fit zero s h = place_steps_none s
  gives_fit (suc n) s h =
      let before = gives_fit n s (λ i l. h i (omega arith)) in
      let last = h n (omega arith) in
      place_steps_append (gives n) (give (destination n) (source n) (mask n) ∷ []) s before
      (record {
        fit = (
          record {
            destination_small = last.destination_small;
            source_small = last.source_small;
            same_space = last.same_space;
            at_home = same_home s (run (gives n) s) (domain_of (destination n)) before.objects_stay last.at_home;
          },
          tt,
        );
        objects_stay = give_objects (destination n) (source n) (mask n) (run (gives n) s);
      })

  -- they leave each place that is none of their destinations
  pub gives_others : (n : ℕ) (s : State) (place : ℕ) → ((i : ℕ) → i < n → place ≡ destination i → ⊥) → (run (gives n) s).caps place ≡ s.caps place
  unfolding listed run
  gives_others zero s place apart = refl
  gives_others (suc n) s place apart =
      rw (run_append (gives n) (give (destination n) (source n) (mask n) ∷ []) s)
      (give_others (destination n) (source n) (mask n) (run (gives n) s) place (apart n (omega arith)) ∙
      gives_others n s place (λ i l. apart i (omega arith)))
