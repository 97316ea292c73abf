-- Revocation keeps a sound state sound: with a place its descendants are cut, so that what is left of a place stays within what is left of its parent.
use Prim.Native.Nat.{ℕ, zero, suc, ◌+◌, ◌<◌}
use mathlib.Core.Path.{◌≡◌, refl, sym, ◌∙◌}
use mathlib.Core.Logic.{⊎_elim}
use mathlib.Core.Bool.{Bool, true, false, ◌&&◌, ◌||◌, and-false, false≢true}
use mathlib.Core.List.{[], ◌∷◌}
use native.Mathlib.Omega.{arith}
use lib.Dec.{eqb, ltb}
use borrow.Author.Tests.{eqb-true, eqb-false}
use Rattle.words.specs.Sizes.{domain_of, space_of, places}
use Rattle.words.specs.Permissions.{revoked, within}
use Rattle.words.proofs.BitLaws.{within_across, revoked_within, revoked_respects}
use Rattle.interface.specs.Basics.{any}
use Rattle.interface.specs.Places.{Cap, State, live, nothing}
use Rattle.interface.specs.Boot.{hypervisor}
use Rattle.interface.specs.Effects.{cut, chain, ancestors, among, below, stripped, cut_caps, act}
use Rattle.interface.proofs.Basics.BoolLaws.{cases, not_both, and_right, or_left, or_right, either}
use Rattle.interface.proofs.Basics.ChainLaws.{chain_none}
use Rattle.interface.proofs.Sound.Soundness.{Sound}
use Rattle.interface.proofs.Tables.Steps.{CutFits}
use Rattle.interface.proofs.Sound.PlaceFacts.{null_cap, depth_small, fixed_parentless, some_live, more_live, ChildOf, live_facts}
use Rattle.interface.proofs.Sound.SoundPlaces.{PlaceKept, places_kept, Reduced, same_reduced, ParentKept, still_live}

-- the ancestors of a child: its parent and the parent's ancestors
pub ancestors_child : (caps : ℕ → Cap) (p q : ℕ) → (caps p).parent ≡ suc q → (caps q).depth + 1 ≡ (caps p).depth → ancestors caps p ≡ q ∷ ancestors caps q
unfolding ancestors chain
ancestors_child caps p q e d =
    let deeper : (caps p).depth ≡ suc (caps q).depth = omega arith in
    rw (deeper, e)

pub below_child : (caps : ℕ → Cap) (first size p q : ℕ) → (caps p).parent ≡ suc q → (caps q).depth + 1 ≡ (caps p).depth →
    below caps first size p ≡ (among first size q || below caps first size q)
unfolding below any
below_child caps first size p q e d = rw (ancestors_child caps p q e d)

-- a place without a parent has no ancestors
pub ancestors_none : (caps : ℕ → Cap) (p : ℕ) → (caps p).parent ≡ 0 → ancestors caps p ≡ []
unfolding ancestors
ancestors_none caps p e = rw e (chain_none (caps p).depth (λ q. (caps q).parent))

-- along links that stay in their space, each one less deep, the places below places of a space are of that space
module _ (caps : ℕ → Cap) (first size space : ℕ) (there : (q : ℕ) → among first size q ≡ true → space_of q ≡ space)
    (up : (p q : ℕ) → p < places → (caps p).parent ≡ suc q → (q < places) × (space_of q ≡ space_of p) × ((caps q).depth + 1 ≡ (caps p).depth)) where
  one_step : (p : ℕ) → p < places → (link : ℕ) → (caps p).parent ≡ link → below caps first size p ≡ true →
      ((q : ℕ) → (caps p).parent ≡ suc q → below caps first size q ≡ true → space_of q ≡ space) → space_of p ≡ space
  unfolding below any
  one_step p l zero e b above = absurd (false≢true (rw (ancestors_none caps p e) at b))
  one_step p l (suc q) e b above =
      let to = up p q l e in
      sym to.1 ∙
      ⊎_elim (λ (a : among first size q ≡ true). there q a) (λ (c : below caps first size q ≡ true). above q e c)
      (either (among first size q) (below caps first size q) (sym (below_child caps first size p q e to.2) ∙ b))

  below_upto : (depth p : ℕ) → (caps p).depth ≡ depth → p < places → below caps first size p ≡ true → space_of p ≡ space
  below_upto zero p d l b = one_step p l (caps p).parent refl b (λ q e c. absurd (omega (arith, (up p q l e).2)))
  below_upto (suc depth) p d l b =
      one_step p l (caps p).parent refl b (λ q e c. let to = up p q l e in below_upto depth q (omega (arith, to.2)) to.0 c)

  pub below_space : (p : ℕ) → p < places → below caps first size p ≡ true → space_of p ≡ space
  below_space p l b = below_upto (caps p).depth p refl l b

-- what stripping leaves: the permissions that the mask has not, and all else of a place that stays live
module _ (mask : ℕ) (cap : Cap) where
  abbrev left : ℕ
  left = revoked cap.permissions mask

  pub stripped_permissions : (stripped mask cap).permissions ≡ left
  unfolding stripped
  stripped_permissions =
      cases (eqb left 0) (λ (t : eqb left 0 ≡ true). rw t (sym (eqb-true left 0 t))) (λ (f : eqb left 0 ≡ false). rw f)

  pub stripped_reduced : live (stripped mask cap) ≡ true → Reduced cap (stripped mask cap)
  unfolding stripped
  stripped_reduced l =
      cases (eqb left 0) (λ (t : eqb left 0 ≡ true). not_both false (rw t at l) refl)
      (λ (f : eqb left 0 ≡ false).
      rw f (record { resource_kept = refl; parent_kept = refl; depth_kept = refl; fewer = revoked_within cap.permissions mask }))

  pub stripped_null : live (stripped mask cap) ≡ false → stripped mask cap ≡ nothing
  unfolding stripped
  stripped_null d =
      cases (eqb left 0) (λ (t : eqb left 0 ≡ true). rw t)
      (λ (f : eqb left 0 ≡ false). not_both (ltb 0 left) (some_live left (eqb-false left 0 f)) (rw f at d))

module _ (s : State) (mask first size : ℕ) (self : Bool) where
  -- whether a place is cut, and the places after
  abbrev pub reached : ℕ → Bool
  reached p = below s.caps first size p || (self && among first size p)

  abbrev after : ℕ → Cap
  after = cut_caps mask first size self s.caps

  pub cut_kept : (p : ℕ) → reached p ≡ false → after p ≡ s.caps p
  unfolding cut_caps
  cut_kept p f = rw f

  pub cut_stripped : (p : ℕ) → reached p ≡ true → after p ≡ stripped mask (s.caps p)
  unfolding cut_caps
  cut_stripped p t = rw t

  -- with its parent a child is cut
  pub cut_with_parent : (p q : ℕ) → ChildOf s p q → reached q ≡ true → reached p ≡ true
  cut_with_parent p q c t =
      rw (below_child s.caps first size p q c.linked c.deeper)
      (or_left (among first size q || below s.caps first size q) (self && among first size p)
      (⊎_elim (λ (b : below s.caps first size q ≡ true). or_right (among first size q) (below s.caps first size q) b)
      (λ (a : (self && among first size q) ≡ true). or_left (among first size q) (below s.caps first size q) (and_right self (among first size q) a))
      (either (below s.caps first size q) (self && among first size q) t)))

  cut_reduced : (p : ℕ) → live (after p) ≡ true → Reduced (s.caps p) (after p)
  cut_reduced p l =
      cases (reached p)
      (λ (t : reached p ≡ true).
      let e : after p ≡ stripped mask (s.caps p) = cut_stripped p t in
      rw e (stripped_reduced mask (s.caps p) (rw e at l)))
      (λ (f : reached p ≡ false). same_reduced (s.caps p) (after p) (cut_kept p f))

  cut_null : (p : ℕ) → (live (s.caps p) ≡ false → s.caps p ≡ nothing) → live (after p) ≡ false → after p ≡ nothing
  cut_null p old d =
      cases (reached p)
      (λ (t : reached p ≡ true).
      let e : after p ≡ stripped mask (s.caps p) = cut_stripped p t in
      e ∙ stripped_null mask (s.caps p) (rw e at d))
      (λ (f : reached p ≡ false).
      let e : after p ≡ s.caps p = cut_kept p f in
      e ∙ old (rw e at d))

  -- what is left of a place is within what is left of its parent
  cut_included : (p q : ℕ) → ChildOf s p q → live (after p) ≡ true → within (after p).permissions (after q).permissions ≡ true
  cut_included p q c l =
      cases (reached q)
      (λ (t : reached q ≡ true).
      rw (cut_stripped q t, cut_stripped p (cut_with_parent p q c t), stripped_permissions mask (s.caps q), stripped_permissions mask (s.caps p))
      (revoked_respects (s.caps p).permissions (s.caps q).permissions mask c.included))
      (λ (f : reached q ≡ false).
      rw (cut_kept q f)
      (within_across (after p).permissions (s.caps p).permissions (s.caps q).permissions (cut_reduced p l).fewer c.included))

  cut_parent : (p q : ℕ) → live (after p) ≡ true → ChildOf s p q → ParentKept s after p q
  cut_parent p q l c =
      let inside = cut_included p q c l in
      let alive : live (after q) ≡ true = more_live (after p) (after q) inside l in
      record { alive = alive; reduced = cut_reduced q alive; included = inside }

  -- domain 0 is not cut
  cut_fixed : Sound s → CutFits first size → (p : ℕ) → p < places → domain_of p ≡ hypervisor → after p ≡ s.caps p
  unfolding below any
  cut_fixed k fit p l e =
      let apart : among first size p ≡ false =
      cases (among first size p) (λ (t : among first size p ≡ true). absurd (fit.outside p t e)) (λ (f : among first size p ≡ false). f) in
      cut_kept p (rw (ancestors_none s.caps p (fixed_parentless s p (k.fixed_places p l) e), apart) (and-false self))

  cut_place : Sound s → CutFits first size → (p : ℕ) → p < places → PlaceKept s after p
  cut_place k fit p l =
      let gone = cut_null p (null_cap s p (k.nulls p l)) in
      record {
        fixed = cut_fixed k fit p l;
        null = gone;
        alive =
            λ (a : live (after p) ≡ true).
            let less = cut_reduced p a in
            still_live s after p (live_facts s p (k.lives p l) (more_live (after p) (s.caps p) less.fewer a)) less (λ q c. cut_parent p q a c);
        flat =
            cases (live (after p)) (λ (a : live (after p) ≡ true). rw (cut_reduced p a).depth_kept (depth_small s p (k.shallows p l)))
            (λ (d : live (after p) ≡ false). rw (gone d) (omega arith));
      }

pub cut_sound : (s : State) (mask first size : ℕ) (self : Bool) → Sound s → CutFits first size → Sound (act (cut mask first size self) s)
unfolding act
cut_sound s mask first size self k fit = places_kept s (cut_caps mask first size self s.caps) k (cut_place s mask first size self k fit)
