-- A history with one more filling, at a place that held none: what it shows, and that it stays valid.
use Prim.Native.Nat.{ℕ, zero, suc, ◌+◌, ◌≤◌, ◌<◌}
use mathlib.Core.Path.{◌≡◌, refl, sym, ap, ◌∙◌}
use mathlib.Core.Bool.{true, false}
use mathlib.Core.List.{◌∷◌}
use native.Mathlib.Numerals.{add-one}
use native.Mathlib.Omega.{arith}
use lib.Dec.{eqb}
use lib.ListN.{length}
use borrow.Author.Tests.{eq-eqb, ne_eqb, eqb-true, eqb-false}
use Rattle.words.specs.Sizes.{places}
use Rattle.words.specs.Permissions.{within}
use Rattle.interface.specs.Basics.{put}
use Rattle.interface.specs.Places.{Cap}
use Rattle.interface.specs.History.{Filling, History, latest, standing, held, origins, place_link, held_cap, told, added}
use Rattle.interface.proofs.Basics.BoolLaws.{cases}
use Rattle.interface.proofs.Basics.BelowLaws.{below_suc}
use Rattle.interface.proofs.Basics.PutLaws.{put_same, put_other}
use Rattle.interface.proofs.Basics.ChainLaws.{chain_none, chain_same, chain_step}
use Rattle.interface.proofs.History.HistoryLaws.{Valid, latest_bound, latest_same, standing_live, held_bound, origins_link, live_held}

-- what stands depends on the permissions alone
pub standing_same : (fillings others : ℕ → Filling) (link : ℕ) → ((k : ℕ) → link ≡ suc k → (fillings k).permissions ≡ (others k).permissions) →
    standing fillings link ≡ standing others link
unfolding standing
standing_same fillings others zero h = refl
standing_same fillings others (suc k) h = rw (h k refl)

-- what a filling shows depends on itself, its source's place and how many it came from
pub held_cap_same : (fillings others : ℕ → Filling) (k : ℕ) → fillings k ≡ others k → place_link fillings (others k).source ≡ place_link others (others k).source →
    origins fillings k ≡ origins others k → held_cap fillings (suc k) ≡ held_cap others (suc k)
unfolding held_cap
held_cap_same fillings others k e p o = rw (e, p, o)

-- the depth of a filling with a given source
abbrev pub depth_from : (ℕ → Filling) → ℕ → ℕ
depth_from fillings zero = 0
depth_from fillings (suc j) = length (origins fillings j) + 1

-- what an added filling shows
abbrev pub new_cap : History → Filling → Cap
new_cap h f =
    record { resource = f.resource; permissions = f.permissions; parent = place_link h.fillings f.source; depth = depth_from h.fillings f.source }

-- what a filling may be to be added: of a place that exists and holds none, with permissions, and with a source that is one of the history's and includes them
pub record Addable (h : History) (f : Filling) : Type 0 where
  pub null : held h f.place ≡ 0
  pub has_permissions : 0 < f.permissions
  pub source_known : f.source ≤ h.total
  pub within_source : (j : ℕ) → f.source ≡ suc j → within f.permissions (h.fillings j).permissions ≡ true
  pub place_exists : f.place < places

module _ (h : History) (valid : Valid h) (f : Filling) (addable : Addable h f) where
  later : ℕ → Filling
  later = put h.fillings h.total f

  as_before : (k : ℕ) → k < h.total → later k ≡ h.fillings k
  unfolding later
  as_before k l = put_other h.fillings h.total f k (λ e. omega arith)

  newest : later h.total ≡ f
  unfolding later
  newest = put_same h.fillings h.total f

  falls : (j : ℕ) → j < h.total → (later j).source ≤ j
  falls j l = rw (as_before j l) (valid.older j l)

  origins_before : (k : ℕ) → k < h.total → origins later k ≡ origins h.fillings k
  unfolding origins
  origins_before k l =
      rw (as_before k l)
      (chain_same h.total k (λ j. (later j).source) (λ j. (h.fillings j).source) falls (λ j b. ap (λ (x : Filling). x.source) (as_before j b))
      (h.fillings k).source (omega (arith, valid.older k l)))

  place_before : (link : ℕ) → link ≤ h.total → place_link later link ≡ place_link h.fillings link
  unfolding place_link
  place_before zero l = refl
  place_before (suc k) l = rw (as_before k (omega arith))

  cap_before : (link : ℕ) → link ≤ h.total → held_cap later link ≡ held_cap h.fillings link
  unfolding held_cap
  cap_before zero l = refl
  cap_before (suc k) l =
      held_cap_same later h.fillings k (as_before k (omega arith))
      (place_before (h.fillings k).source (omega (arith, valid.older k (omega arith))))
      (origins_before k (omega arith))

  latest_before : (place : ℕ) → latest later h.total place ≡ latest h.fillings h.total place
  latest_before place = latest_same later h.fillings h.total place (λ k l. ap (λ (x : Filling). x.place) (as_before k l))

  held_new : held (added h f) f.place ≡ suc h.total
  unfolding held latest later
  held_new =
      rw (newest, eq-eqb f.place f.place refl) (standing_live later h.total (rw newest addable.has_permissions))

  held_other : (place : ℕ) → (place ≡ f.place → ⊥) → held (added h f) place ≡ held h place
  unfolding held latest later
  held_other place n =
      rw (newest, ne_eqb f.place place (λ e. n (sym e)), latest_before place)
      (standing_same later h.fillings (latest h.fillings h.total place)
      (λ k e. ap (λ (x : Filling). x.permissions) (as_before k (omega (arith, latest_bound h.fillings h.total place)))))

  -- how many fillings the new one came from
  new_depth : length (origins later h.total) ≡ depth_from h.fillings f.source
  new_depth = go f.source (ap (λ (x : Filling). x.source) newest) addable.source_known
    where
      go : (link : ℕ) → (later h.total).source ≡ link → link ≤ h.total → length (origins later h.total) ≡ depth_from h.fillings link
      go zero e l = rw (origins_link later h.total 0 e, chain_none)
      go (suc j) e l =
          let step : origins later h.total ≡ j ∷ origins later j =
          unfold origins in
          origins_link later h.total (suc j) e ∙ chain_step h.total h.total (λ i. (later i).source) falls j (omega arith) (omega arith)
          in rw (step, origins_before j (omega arith), add-one)

  -- what it shows
  cap_new : held_cap later (suc h.total) ≡ new_cap h f
  unfolding held_cap
  cap_new = rw (newest, place_before f.source addable.source_known, new_depth)

  -- the new history shows the old one's capabilities, and the new one at its place
  pub told_added : (place : ℕ) → (told (added h f)).caps place ≡ put (told h).caps f.place (new_cap h f) place
  unfolding later
  told_added place =
      cases (eqb place f.place)
      (λ (t : eqb place f.place ≡ true).
      let e : place ≡ f.place = eqb-true place f.place t in
      rw (e, held_new, put_same) cap_new)
      (λ (n : eqb place f.place ≡ false).
      let d : place ≡ f.place → ⊥ = eqb-false place f.place n in
      rw (held_other place d, put_other (told h).caps f.place (new_cap h f) place d)
      (cap_before (held h place) (held_bound h place)))

  pub valid_added : Valid (added h f)
  unfolding later latest
  valid_added =
      record {
        older = λ k l. below_suc k h.total l (falls k) (λ (e : k ≡ h.total). rw (e, newest) addable.source_known);
        latest_live =
            λ k l p.
            below_suc k h.total l
            (λ (b : k < h.total).
            let same : later k ≡ h.fillings k = as_before k b in
            let p' : 0 < (h.fillings k).permissions = rw same at p in
            let apart : f.place ≡ (h.fillings k).place → ⊥ =
            λ e. let z : 0 ≡ suc k = sym addable.null ∙ (rw e (live_held h valid k b p')) in omega arith
            in
            rw (same, newest, ne_eqb f.place (h.fillings k).place apart, latest_before (h.fillings k).place) (valid.latest_live k b p'))
            (λ (e : k ≡ h.total). rw (e, newest, eq-eqb f.place f.place refl));
        source_within =
            λ k j l e.
            below_suc k h.total l
            (λ (b : k < h.total).
            let s : (h.fillings k).source ≡ suc j = rw (as_before k b) at e in
            let o : (h.fillings k).source ≤ k = valid.older k b in
            rw (as_before k b, as_before j (omega arith)) (valid.source_within k j b s))
            (λ (n : k ≡ h.total).
            let g : later k ≡ f = ap later n ∙ newest in
            let s : f.source ≡ suc j = ap (λ (x : Filling). x.source) (sym g) ∙ e in
            let o : f.source ≤ h.total = addable.source_known in
            rw (g, as_before j (omega arith)) (addable.within_source j s));
        place_small = λ k l. below_suc k h.total l (λ (b : k < h.total). rw (as_before k b) (valid.place_small k b)) (λ (e : k ≡ h.total). rw (e, newest) addable.place_exists);
        records_end = valid.records_end;
        words_end = valid.words_end;
      }
