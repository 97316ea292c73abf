-- A history after a revocation: what it shows is what revocation leaves of what was shown, and it stays valid.
use Prim.Native.Nat.{ℕ, zero, suc, ◌+◌, ◌≤◌, ◌<◌}
use mathlib.Core.Path.{◌≡◌, refl, sym, ap, ◌∙◌, fun_ext}
use mathlib.Core.Bool.{Bool, true, false, ◌&&◌, ◌||◌, and-true}
use mathlib.Core.Logic.{⊎_elim}
use mathlib.Core.List.{[], ◌∷◌}
use native.Mathlib.Numerals.{add-one}
use native.Mathlib.Omega.{arith}
use lib.Bits.{and_zero_l}
use lib.Dec.{eqb, leb, ltb}
use lib.ListN.{length}
use borrow.Author.Tests.{eq-eqb, eqb-true, eqb-false, lt-ltb, ltb-true, ltb-false, le-leb, leb-true}
use Rattle.words.specs.Permissions.{within, revoked}
use Rattle.words.proofs.BitLaws.{within_le, within_across, revoked_within, revoked_respects}
use Rattle.interface.specs.Basics.{any}
use Rattle.interface.specs.Places.{Cap, nothing}
use Rattle.interface.specs.Effects.{cut, chain, ancestors, among, below, stripped, cut_caps}
use Rattle.interface.specs.History.{Filling, History, latest, standing, held, origins, place_link, held_cap, told, held_among, cut_filling, note}
use Rattle.interface.proofs.Basics.BoolLaws.{cases, not_both, and_left, and_right, or_left, or_right, either, same_test}
use Rattle.interface.proofs.Basics.ChainLaws.{chain_none}
use Rattle.interface.proofs.History.HistoryLaws.{Valid, latest_bound, latest_place, latest_same, standing_live, standing_none, standing_dead, cap_none, held_none, live_held, origins_none, origins_step}
use Rattle.interface.proofs.History.AddedLaws.{held_cap_same}

module _ (h : History) (valid : Valid h) where
  -- the source of a filling with permissions has permissions
  pub source_live : (k j : ℕ) → k < h.total → 0 < (h.fillings k).permissions → (h.fillings k).source ≡ suc j → (j < k) × (0 < (h.fillings j).permissions)
  source_live k j l p e =
      let o : (h.fillings k).source ≤ k = valid.older k l in
      let w : (h.fillings k).permissions ≤ (h.fillings j).permissions =
      within_le (h.fillings k).permissions (h.fillings j).permissions (valid.source_within k j l e)
      in
      (omega arith, omega arith)

  -- what the place of a filling with permissions shows
  pub cap_live : (k : ℕ) → k < h.total → 0 < (h.fillings k).permissions → (told h).caps (h.fillings k).place ≡ held_cap h.fillings (suc k)
  cap_live k l p = ap (held_cap h.fillings) (live_held h valid k l p)

  -- the ancestors of its place: none, or the source's place and the ancestors of that
  pub ancestors_none : (k : ℕ) → k < h.total → 0 < (h.fillings k).permissions → (h.fillings k).source ≡ 0 →
      ancestors (told h).caps (h.fillings k).place ≡ []
  unfolding ancestors held_cap place_link
  ancestors_none k l p e =
      let root : ((told h).caps (h.fillings k).place).parent ≡ 0 =
      ap (λ (c : Cap). c.parent) (cap_live k l p) ∙ ap (place_link h.fillings) e
      in
      rw root (chain_none ((told h).caps (h.fillings k).place).depth (λ q. ((told h).caps q).parent))

  pub ancestors_step : (k j : ℕ) → k < h.total → 0 < (h.fillings k).permissions → (h.fillings k).source ≡ suc j →
      ancestors (told h).caps (h.fillings k).place ≡ (h.fillings j).place ∷ ancestors (told h).caps (h.fillings j).place
  unfolding ancestors held_cap place_link chain
  ancestors_step k j l p e =
      let s = source_live k j l p e in
      let parent : ((told h).caps (h.fillings k).place).parent ≡ suc (h.fillings j).place =
      ap (λ (c : Cap). c.parent) (cap_live k l p) ∙ ap (place_link h.fillings) e ∙ add-one (h.fillings j).place
      in
      let depth : ((told h).caps (h.fillings k).place).depth ≡ suc ((told h).caps (h.fillings j).place).depth =
      ap (λ (c : Cap). c.depth) (cap_live k l p) ∙ ap length (origins_step h valid k j l e) ∙
      ap (λ (c : Cap). suc c.depth) (sym (cap_live j (omega arith) s.1))
      in
      rw (parent, depth)

  -- a filling with permissions is held among some places exactly when its place is among them
  pub held_among_lem : (first size k : ℕ) → k < h.total → 0 < (h.fillings k).permissions → held_among h first size k ≡ among first size (h.fillings k).place
  unfolding held_among
  held_among_lem first size k l p = rw (live_held h valid k l p, eq-eqb (suc k) (suc k) refl) (and-true (among first size (h.fillings k).place))

  -- its place is below some places exactly when it came from a filling that is held among them
  abbrev BelowAt : ℕ → ℕ → ℕ → Type 0
  BelowAt first size k = below (told h).caps first size (h.fillings k).place ≡ any (held_among h first size) (origins h.fillings k)

  below_step : (first size k : ℕ) → k < h.total → 0 < (h.fillings k).permissions → ((j : ℕ) → j < k → 0 < (h.fillings j).permissions → BelowAt first size j) →
      (link : ℕ) → (h.fillings k).source ≡ link → BelowAt first size k
  unfolding below any
  below_step first size k l p before zero e = rw (ancestors_none k l p e, origins_none h valid k e)
  below_step first size k l p before (suc j) e =
      let s = source_live k j l p e in
      rw (
        ancestors_step k j l p e,
        origins_step h valid k j l e,
        held_among_lem first size j (omega arith) s.1,
      )
      (ap (λ (b : Bool). among first size (h.fillings j).place || b) (before j s.0 s.1))

  below_upto : (first size n k : ℕ) → k < n → k < h.total → 0 < (h.fillings k).permissions → BelowAt first size k
  below_upto first size zero k b l p = absurd (omega arith)
  below_upto first size (suc n) k b l p =
      below_step first size k l p (λ j i q. below_upto first size n j (omega arith) (omega arith) q) (h.fillings k).source refl

  pub below_told : (first size k : ℕ) → k < h.total → 0 < (h.fillings k).permissions → BelowAt first size k
  below_told first size k l p = below_upto first size (suc k) k (omega arith) l p

-- revocation leaves a null capability null
pub stripped_nothing : (mask : ℕ) → stripped mask nothing ≡ nothing
unfolding stripped
stripped_nothing mask = rw (and_zero_l mask)

-- a place is among one place exactly when it is that one
pub among_one : (place other : ℕ) → among place 1 other ≡ eqb place other
among_one place other =
    same_test (among place 1 other) (eqb place other)
    (λ t.
    let low = leb-true place other (and_left (leb place other) (ltb other (place + 1)) t) in
    let high = ltb-true other (place + 1) (and_right (leb place other) (ltb other (place + 1)) t) in
    eq-eqb place other (omega arith))
    (λ t. let e = eqb-true place other t in rw (le-leb place other (omega arith)) (lt-ltb other (place + 1) (omega arith)))

-- what revocation leaves of a capability
pub stripped_none : (mask : ℕ) (cap : Cap) → eqb (revoked cap.permissions mask) 0 ≡ true → stripped mask cap ≡ nothing
unfolding stripped
stripped_none mask cap z = rw z

pub stripped_some : (mask : ℕ) (cap : Cap) → eqb (revoked cap.permissions mask) 0 ≡ false →
    stripped mask cap ≡ record { resource = cap.resource; permissions = revoked cap.permissions mask; parent = cap.parent; depth = cap.depth }
unfolding stripped
stripped_some mask cap n = rw n

pub cut_nothing : (mask first size : ℕ) (self : Bool) (caps : ℕ → Cap) (place : ℕ) → caps place ≡ nothing → cut_caps mask first size self caps place ≡ nothing
unfolding cut_caps
cut_nothing mask first size self caps place e =
    cases (below caps first size place || (self && among first size place))
    (λ (t : (below caps first size place || (self && among first size place)) ≡ true). rw (t, e) (stripped_nothing mask))
    (λ (f : (below caps first size place || (self && among first size place)) ≡ false). rw f e)

pub positive : (n : ℕ) → eqb n 0 ≡ false → 0 < n
positive zero h = absurd (eqb-false 0 0 h refl)
positive (suc n) h = omega arith

module _ (mask first size : ℕ) (self : Bool) (h : History) (valid : Valid h) where
  after_cut : ℕ → Filling
  after_cut = cut_filling mask first size self h

  -- whether a filling loses the mask's permissions
  touched : ℕ → Bool
  touched k = any (held_among h first size) (origins h.fillings k) || (self && held_among h first size k)

  cut_touched : (k : ℕ) → touched k ≡ true →
      after_cut k ≡
      record {
        place = (h.fillings k).place;
        resource = (h.fillings k).resource;
        permissions = revoked (h.fillings k).permissions mask;
        source = (h.fillings k).source;
      }
  unfolding after_cut cut_filling touched
  cut_touched k t = rw t

  cut_untouched : (k : ℕ) → touched k ≡ false → after_cut k ≡ h.fillings k
  unfolding after_cut cut_filling touched
  cut_untouched k f = rw f

  -- the place and the source of a filling stay
  cut_place : (k : ℕ) → (after_cut k).place ≡ (h.fillings k).place
  cut_place k =
      cases (touched k) (λ (t : touched k ≡ true). rw (cut_touched k t)) (λ (f : touched k ≡ false). rw (cut_untouched k f))

  cut_source : (k : ℕ) → (after_cut k).source ≡ (h.fillings k).source
  cut_source k =
      cases (touched k) (λ (t : touched k ≡ true). rw (cut_touched k t)) (λ (f : touched k ≡ false). rw (cut_untouched k f))

  -- so what a filling came from stays, and the latest filling of a place
  cut_origins : (k : ℕ) → origins after_cut k ≡ origins h.fillings k
  unfolding origins
  cut_origins k =
      let e : ◌≡◌ {A = ℕ → ℕ} (λ j. (after_cut j).source) (λ j. (h.fillings j).source) = fun_ext cut_source in
      ap (λ (up : ℕ → ℕ). chain k up (up k)) e

  cut_link : (link : ℕ) → place_link after_cut link ≡ place_link h.fillings link
  unfolding place_link
  cut_link zero = refl
  cut_link (suc k) = rw (cut_place k)

  cut_latest : (place : ℕ) → latest after_cut h.total place ≡ latest h.fillings h.total place
  cut_latest place = latest_same after_cut h.fillings h.total place (λ k l. cut_place k)

  -- a filling with permissions is touched exactly when its place is cut
  touched_cut : (k : ℕ) → k < h.total → 0 < (h.fillings k).permissions →
      (below (told h).caps first size (h.fillings k).place || (self && among first size (h.fillings k).place)) ≡ touched k
  unfolding touched
  touched_cut k l p = rw (held_among_lem h valid first size k l p, below_told h valid first size k l p)

  -- what a filling with permissions shows after the cut
  cap_cut : (k : ℕ) → k < h.total → 0 < (h.fillings k).permissions →
      held_cap after_cut (standing after_cut (suc k)) ≡ cut_caps mask first size self (told h).caps (h.fillings k).place
  unfolding held_cap cut_caps
  cap_cut k l p =
      cases (touched k)
      (λ (t : touched k ≡ true).
      let cut_at : cut_caps mask first size self (told h).caps (h.fillings k).place ≡ stripped mask (held_cap h.fillings (suc k)) =
      rw (touched_cut k l p, t, cap_live h valid k l p)
      in
      let left : (after_cut k).permissions ≡ revoked (h.fillings k).permissions mask = ap (λ (f : Filling). f.permissions) (cut_touched k t) in
      cases (eqb (revoked (h.fillings k).permissions mask) 0)
      (λ (z : eqb (revoked (h.fillings k).permissions mask) 0 ≡ true).
      let gone : standing after_cut (suc k) ≡ 0 =
      standing_dead after_cut k (left ∙ eqb-true (revoked (h.fillings k).permissions mask) 0 z)
      in
      rw (gone, cut_at, stripped_none mask (held_cap h.fillings (suc k)) z))
      (λ (n : eqb (revoked (h.fillings k).permissions mask) 0 ≡ false).
      let stays : standing after_cut (suc k) ≡ suc k =
      standing_live after_cut k (rw left (positive (revoked (h.fillings k).permissions mask) n))
      in
      rw (
        stays,
        cut_at,
        stripped_some mask (held_cap h.fillings (suc k)) n,
        cut_touched k t,
        cut_link (h.fillings k).source,
        cut_origins k,
      )))
      (λ (f : touched k ≡ false).
      let cut_at : cut_caps mask first size self (told h).caps (h.fillings k).place ≡ held_cap h.fillings (suc k) =
      rw (touched_cut k l p, f, cap_live h valid k l p)
      in
      let stays : standing after_cut (suc k) ≡ suc k = standing_live after_cut k (rw (cut_untouched k f) p) in
      rw (stays, cut_at)
      (held_cap_same after_cut h.fillings k (cut_untouched k f) (cut_link (h.fillings k).source) (cut_origins k)))

  -- a filling without permissions stays without
  cut_dead : (k : ℕ) → (h.fillings k).permissions ≡ 0 → (after_cut k).permissions ≡ 0
  cut_dead k z =
      cases (touched k) (λ (t : touched k ≡ true). rw (cut_touched k t, z) (rw (and_zero_l mask)))
      (λ (f : touched k ≡ false). rw (cut_untouched k f) z)

  held_latest : (place link : ℕ) → latest h.fillings h.total place ≡ link → held h place ≡ standing h.fillings link
  unfolding held
  held_latest place link e = rw e

  -- after a revocation the history shows what revocation leaves of what it showed
  cut_shows : (place link : ℕ) → latest h.fillings h.total place ≡ link →
      held_cap after_cut (standing after_cut link) ≡ cut_caps mask first size self (told h).caps place
  cut_shows place zero e =
      let none : held h place ≡ 0 = held_latest place 0 e ∙ standing_none h.fillings in
      rw (standing_none after_cut, cap_none after_cut) (sym (cut_nothing mask first size self (told h).caps place (held_none h place none)))
  cut_shows place (suc k) e =
      let l : k < h.total = omega (arith, latest_bound h.fillings h.total place) in
      let at : (h.fillings k).place ≡ place = latest_place h.fillings h.total place k e in
      cases (ltb 0 (h.fillings k).permissions)
      (λ (t : ltb 0 (h.fillings k).permissions ≡ true). rw (← at) (cap_cut k l (ltb-true 0 (h.fillings k).permissions t)))
      (λ (f : ltb 0 (h.fillings k).permissions ≡ false).
      let z : (h.fillings k).permissions ≡ 0 = omega (arith, ltb-false 0 (h.fillings k).permissions f) in
      let gone : held h place ≡ 0 = held_latest place (suc k) e ∙ standing_dead h.fillings k z in
      rw (standing_dead after_cut k (cut_dead k z), cap_none after_cut)
      (sym (cut_nothing mask first size self (told h).caps place (held_none h place gone))))

  pub told_cut : (place : ℕ) → (told (note (cut mask first size self) h)).caps place ≡ cut_caps mask first size self (told h).caps place
  unfolding note held after_cut
  told_cut place = rw (cut_latest place) (cut_shows place (latest h.fillings h.total place) refl)

  -- where a source is touched, what came from it is too
  touched_on : (k j : ℕ) → k < h.total → (h.fillings k).source ≡ suc j → touched j ≡ true → touched k ≡ true
  unfolding touched any
  touched_on k j l e t =
      let test = held_among h first size in
      let from : any test (origins h.fillings k) ≡ (test j || any test (origins h.fillings j)) = rw (origins_step h valid k j l e) in
      or_left (any test (origins h.fillings k)) (self && test k)
      (rw from
      (⊎_elim (λ (o : any test (origins h.fillings j) ≡ true). or_right (test j) (any test (origins h.fillings j)) o)
      (λ (o : (self && test j) ≡ true). or_left (test j) (any test (origins h.fillings j)) (and_right self (test j) o))
      (either (any test (origins h.fillings j)) (self && test j) t)))

  -- permissions stay within the source's
  cut_within : (k j : ℕ) → k < h.total → (h.fillings k).source ≡ suc j → within (after_cut k).permissions (after_cut j).permissions ≡ true
  cut_within k j l e =
      let w = valid.source_within k j l e in
      let a = (h.fillings k).permissions in
      let b = (h.fillings j).permissions in
      cases (touched k)
      (λ (t : touched k ≡ true).
      cases (touched j) (λ (u : touched j ≡ true). rw (cut_touched k t, cut_touched j u) (revoked_respects a b mask w))
      (λ (u : touched j ≡ false). rw (cut_touched k t, cut_untouched j u) (within_across (revoked a mask) a b (revoked_within a mask) w)))
      (λ (t : touched k ≡ false).
      cases (touched j) (λ (u : touched j ≡ true). not_both (touched k) (touched_on k j l e u) t)
      (λ (u : touched j ≡ false). rw (cut_untouched k t, cut_untouched j u) w))

  pub valid_cut : Valid (note (cut mask first size self) h)
  unfolding note after_cut
  valid_cut =
      record {
        older = λ k l. rw (cut_source k) (valid.older k l);
        latest_live =
            λ k l p.
            rw (cut_place k, cut_latest (h.fillings k).place)
            (valid.latest_live k l
            (cases (ltb 0 (h.fillings k).permissions) (λ (t : ltb 0 (h.fillings k).permissions ≡ true). ltb-true 0 (h.fillings k).permissions t)
            (λ (f : ltb 0 (h.fillings k).permissions ≡ false).
            let z : (after_cut k).permissions ≡ 0 = cut_dead k (omega (arith, ltb-false 0 (h.fillings k).permissions f)) in
            absurd (omega arith))));
        source_within = λ k j l e. cut_within k j l (sym (cut_source k) ∙ e);
        place_small = λ k l. rw (cut_place k) (valid.place_small k l);
        records_end = valid.records_end;
        words_end = valid.words_end;
      }
