-- Laws of the history: what its fillings keep, and how it changes when one is added.
use Prim.Native.Nat.{ℕ, zero, suc, ◌≤◌, ◌<◌}
use mathlib.Core.Path.{◌≡◌, refl, ap, ◌∙◌}
use mathlib.Core.Bool.{true, false}
use mathlib.Core.List.{[], ◌∷◌}
use native.Mathlib.Omega.{arith}
use lib.Dec.{eqb, ltb}
use borrow.Author.Tests.{ne_eqb, eqb-true, lt-ltb, ltb-true}
use Rattle.words.specs.Sizes.{places, records, record_words}
use Rattle.words.specs.Permissions.{within}
use Rattle.interface.specs.Places.{nothing}
use Rattle.interface.specs.Effects.{chain}
use Rattle.interface.specs.History.{Filling, History, latest, standing, held, origins, held_cap, told}
use Rattle.interface.proofs.Basics.BoolLaws.{cases}
use Rattle.interface.proofs.Basics.ChainLaws.{chain_none, chain_step}

-- what every history from boot keeps: sources are older; a filling with permissions is the latest of its place; permissions are within the source's; places exist; and no
-- object stands past the records or past their words
pub record Valid (h : History) : Type 0 where
  pub older : (k : ℕ) → k < h.total → (h.fillings k).source ≤ k
  pub latest_live : (k : ℕ) → k < h.total → 0 < (h.fillings k).permissions → latest h.fillings h.total (h.fillings k).place ≡ suc k
  pub source_within : (k j : ℕ) → k < h.total → (h.fillings k).source ≡ suc j → within (h.fillings k).permissions (h.fillings j).permissions ≡ true
  pub place_small : (k : ℕ) → k < h.total → (h.fillings k).place < places
  pub records_end : (r i : ℕ) → records ≤ r → h.objects r i ≡ 0
  pub words_end : (r i : ℕ) → record_words ≤ i → h.objects r i ≡ 0

-- the latest filling of a place is one of it, among those asked for
pub latest_bound : (fillings : ℕ → Filling) (n place : ℕ) → latest fillings n place ≤ n
unfolding latest
latest_bound fillings zero place = omega arith
latest_bound fillings (suc n) place =
    cases (eqb (fillings n).place place) (λ (t : eqb (fillings n).place place ≡ true). rw t (omega arith))
    (λ (f : eqb (fillings n).place place ≡ false). rw f (omega (arith, latest_bound fillings n place)))

pub latest_place : (fillings : ℕ → Filling) (n place k : ℕ) → latest fillings n place ≡ suc k → (fillings k).place ≡ place
unfolding latest
latest_place fillings zero place k h = absurd (omega arith)
latest_place fillings (suc n) place k h =
    cases (eqb (fillings n).place place)
    (λ (t : eqb (fillings n).place place ≡ true).
    let e : suc n ≡ suc k = rw t at h in
    let e' : n ≡ k = omega arith in
    rw (← e') (eqb-true (fillings n).place place t))
    (λ (f : eqb (fillings n).place place ≡ false). latest_place fillings n place k (rw f at h))

-- it depends on the places alone
pub latest_same : (fillings others : ℕ → Filling) (n place : ℕ) → ((k : ℕ) → k < n → (fillings k).place ≡ (others k).place) → latest fillings n place ≡ latest others n place
unfolding latest
latest_same fillings others zero place h = refl
latest_same fillings others (suc n) place h = rw (h n (omega arith), latest_same fillings others n place (λ k l. h k (omega arith)))

-- a place that no filling has holds none
pub latest_none : (fillings : ℕ → Filling) (n place : ℕ) → ((k : ℕ) → k < n → (fillings k).place ≡ place → ⊥) → latest fillings n place ≡ 0
unfolding latest
latest_none fillings zero place h = refl
latest_none fillings (suc n) place h = rw (ne_eqb (fillings n).place place (h n (omega arith)), latest_none fillings n place (λ k l. h k (omega arith)))

-- a filling that stands has permissions, and is the one asked for
pub standing_is : (fillings : ℕ → Filling) (link k : ℕ) → standing fillings link ≡ suc k → (link ≡ suc k) × (0 < (fillings k).permissions)
unfolding standing
standing_is fillings zero k h = absurd (omega arith)
standing_is fillings (suc j) k h =
    cases (ltb 0 (fillings j).permissions)
    (λ (t : ltb 0 (fillings j).permissions ≡ true).
    let e : suc j ≡ suc k = rw t at h in
    let e' : j ≡ k = omega arith in
    (e, rw (← e') (ltb-true 0 (fillings j).permissions t)))
    (λ (f : ltb 0 (fillings j).permissions ≡ false). let z : 0 ≡ suc k = rw f at h in absurd (omega arith))

pub standing_live : (fillings : ℕ → Filling) (k : ℕ) → 0 < (fillings k).permissions → standing fillings (suc k) ≡ suc k
unfolding standing
standing_live fillings k h = rw (lt-ltb 0 (fillings k).permissions h)

pub standing_none : (fillings : ℕ → Filling) → standing fillings 0 ≡ 0
unfolding standing
standing_none fillings = refl

pub standing_dead : (fillings : ℕ → Filling) (k : ℕ) → (fillings k).permissions ≡ 0 → standing fillings (suc k) ≡ 0
unfolding standing
standing_dead fillings k h = rw h

pub standing_bound : (fillings : ℕ → Filling) (link : ℕ) → standing fillings link ≤ link
unfolding standing
standing_bound fillings zero = omega arith
standing_bound fillings (suc k) =
    cases (ltb 0 (fillings k).permissions) (λ (t : ltb 0 (fillings k).permissions ≡ true). rw t (omega arith))
    (λ (f : ltb 0 (fillings k).permissions ≡ false). rw f (omega arith))

pub held_bound : (h : History) (place : ℕ) → held h place ≤ h.total
unfolding held
held_bound h place =
    omega (arith, standing_bound h.fillings (latest h.fillings h.total place), latest_bound h.fillings h.total place)

-- a place that holds no filling shows nothing
pub cap_none : (fillings : ℕ → Filling) → held_cap fillings 0 ≡ nothing
unfolding held_cap
cap_none fillings = refl

pub held_none : (h : History) (place : ℕ) → held h place ≡ 0 → (told h).caps place ≡ nothing
held_none h place e = rw e (cap_none h.fillings)

-- what a filling came from is a walk from its source
pub origins_link : (fillings : ℕ → Filling) (k link : ℕ) → (fillings k).source ≡ link → origins fillings k ≡ chain k (λ j. (fillings j).source) link
unfolding origins
origins_link fillings k link e = ap (λ (x : ℕ). chain k (λ j. (fillings j).source) x) e

module _ (h : History) (valid : Valid h) where
  -- the filling that a place holds: it is of that place, has permissions, and is one of the history's
  pub held_is : (place k : ℕ) → held h place ≡ suc k → ((h.fillings k).place ≡ place) × (0 < (h.fillings k).permissions) × (k < h.total)
  unfolding held
  held_is place k e =
      let s = standing_is h.fillings (latest h.fillings h.total place) k e in
      (latest_place h.fillings h.total place k s.0, s.1, omega (arith, s.0, latest_bound h.fillings h.total place))

  -- a filling with permissions is held by its place
  pub live_held : (k : ℕ) → k < h.total → 0 < (h.fillings k).permissions → held h (h.fillings k).place ≡ suc k
  unfolding held
  live_held k l p = rw (valid.latest_live k l p) (standing_live h.fillings k p)

  -- what a filling came from: nothing where it has no source, else the source, then what that came from
  pub origins_none : (k : ℕ) → (h.fillings k).source ≡ 0 → origins h.fillings k ≡ []
  origins_none k e = origins_link h.fillings k 0 e ∙ chain_none k (λ j. (h.fillings j).source)

  pub origins_step : (k j : ℕ) → k < h.total → (h.fillings k).source ≡ suc j → origins h.fillings k ≡ j ∷ origins h.fillings j
  unfolding origins
  origins_step k j l e =
      let o : (h.fillings k).source ≤ k = valid.older k l in
      origins_link h.fillings k (suc j) e ∙ chain_step h.total k (λ i. (h.fillings i).source) valid.older j (omega arith) (omega arith)
