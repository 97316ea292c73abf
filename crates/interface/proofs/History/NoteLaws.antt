-- A step that fits does the same to what a history shows as to a state, and the history stays valid.
use Prim.Native.Nat.{ℕ, zero, suc, ◌≤◌, ◌<◌}
use mathlib.Core.Path.{◌≡◌, refl, sym, ap, ◌∙◌}
use mathlib.Core.Bool.{Bool, true, false, not, ◌&&◌}
use mathlib.Core.List.{List}
use native.Mathlib.Omega.{arith}
use lib.Dec.{eqb, ltb}
use lib.ListN.{get_or-eq_default}
use borrow.Author.Tests.{eqb-true, eqb-false, ltb-true, ltb-false, lt-ltb, not-true}
use Rattle.words.specs.Sizes.{places, records, record_words, greatest_depth}
use Rattle.words.specs.Permissions.{delegated}
use Rattle.words.proofs.BitLaws.{delegated_within_source}
use Rattle.interface.specs.Basics.{word, put, put_from}
use Rattle.interface.specs.Places.{Cap, State, live, parentless, free, SM, kind_of, greatest_of}
use Rattle.interface.specs.Effects.{give, make, hold, cut, store, fills, handed, act}
use Rattle.interface.specs.History.{Filling, History, held, place_link, held_cap, told, added, note}
use Rattle.interface.proofs.Basics.BoolLaws.{cases, and_left, and_right}
use Rattle.interface.proofs.Basics.PutLaws.{put_same, put_other, put_from_past}
use Rattle.interface.proofs.Sound.Soundness.{Sound}
use Rattle.interface.proofs.Sound.PlaceFacts.{kind_small}
use Rattle.interface.proofs.Tables.TableLaws.{state_same}
use Rattle.interface.proofs.Tables.Steps.{GiveFits, MakeFits, HoldFits, StoreFits}
use Rattle.interface.proofs.History.HistoryLaws.{Valid, held_bound, held_is}
use Rattle.interface.proofs.History.AddedLaws.{depth_from, Addable, new_cap, told_added, valid_added}
use Rattle.interface.proofs.History.CutLaws.{told_cut, valid_cut, positive}

-- a history that shows what a step makes of a state, and is valid
abbrev pub Follows : History → State → Type 0
Follows h s = (told h ≡ s) × Valid h

module _ (h : History) (valid : Valid h) where
  -- a place is live exactly when it holds a filling
  pub told_live : (place : ℕ) → live ((told h).caps place) ≡ ltb 0 (held h place)
  unfolding held_cap
  told_live place = go (held h place) refl
    where
      go : (link : ℕ) → held h place ≡ link → live (held_cap h.fillings link) ≡ ltb 0 link
      go zero e = refl
      go (suc k) e =
          lt-ltb 0 (h.fillings k).permissions (held_is h valid place k e).1 ∙ sym (lt-ltb 0 (suc k) (omega arith))

  -- a null place holds none
  pub null_held : (place : ℕ) → live ((told h).caps place) ≡ false → held h place ≡ 0
  null_held place n = omega (arith, ltb-false 0 (held h place) (sym (told_live place) ∙ n))

  -- a live place holds a filling
  pub live_holds : (place : ℕ) → live ((told h).caps place) ≡ true → (k : ℕ) × (held h place ≡ suc k)
  live_holds place t = go (held h place) refl
    where
      go : (link : ℕ) → held h place ≡ link → (k : ℕ) × (held h place ≡ suc k)
      go zero e = absurd (omega (arith, ltb-true 0 (held h place) (sym (told_live place) ∙ t)))
      go (suc k) e = (k, e)

  -- an added filling shows like a capability that is put in its place
  pub added_follows : (f : Filling) (cap : Cap) → Addable h f → new_cap h f ≡ cap →
      Follows (added h f) (record { caps = put (told h).caps f.place cap; objects = h.objects })
  added_follows f cap addable e = (
    state_same (told (added h f)) (record { caps = put (told h).caps f.place cap; objects = h.objects })
        (λ p. told_added h valid f addable p ∙ ap (λ (c : Cap). put (told h).caps f.place c p) e) (λ r i. refl),
    valid_added h valid f addable,
  )

-- what a delegation that fills a place tells: the source is live, the destination null, and a permission is left
pub fills_source : (caps : ℕ → Cap) (destination source mask : ℕ) → fills caps destination source mask ≡ true → live (caps source) ≡ true
unfolding fills
fills_source caps destination source mask t =
    let a = live (caps source) in
    let b = ltb (caps source).depth greatest_depth in
    let c = not (live (caps destination)) in
    let d = not (eqb (delegated (caps source).permissions mask) 0) in
    and_left a b (and_left (a && b) c (and_left (a && b && c) d t))

pub fills_null : (caps : ℕ → Cap) (destination source mask : ℕ) → fills caps destination source mask ≡ true → live (caps destination) ≡ false
unfolding fills
fills_null caps destination source mask t =
    let a = live (caps source) in
    let b = ltb (caps source).depth greatest_depth in
    let c = not (live (caps destination)) in
    let d = not (eqb (delegated (caps source).permissions mask) 0) in
    not-true (live (caps destination)) (and_right (a && b) c (and_left (a && b && c) d t))

pub fills_leaves : (caps : ℕ → Cap) (destination source mask : ℕ) → fills caps destination source mask ≡ true → 0 < delegated (caps source).permissions mask
unfolding fills
fills_leaves caps destination source mask t =
    let a = live (caps source) in
    let b = ltb (caps source).depth greatest_depth in
    let c = not (live (caps destination)) in
    let d = eqb (delegated (caps source).permissions mask) 0 in
    positive (delegated (caps source).permissions mask) (not-true d (and_right (a && b && c) (not d) t))

-- a filling of the source's place, handed on
handed_from : (fillings : ℕ → Filling) (k source mask : ℕ) → (fillings k).place ≡ source →
    ◌≡◌ {A = Cap}
    (record {
      resource = (held_cap fillings (suc k)).resource;
      permissions = delegated (held_cap fillings (suc k)).permissions mask;
      parent = place_link fillings (suc k);
      depth = depth_from fillings (suc k);
    })
    (handed (held_cap fillings (suc k)) source mask)
unfolding held_cap place_link
handed_from fillings k source mask e = rw e

module _ (h : History) (valid : Valid h) (destination source mask : ℕ) (exists : destination < places)
    (takes : fills (told h).caps destination source mask ≡ true) where
  -- the filling that a delegation adds
  abbrev given : Filling
  given =
      record {
        place = destination;
        resource = ((told h).caps source).resource;
        permissions = delegated ((told h).caps source).permissions mask;
        source = held h source;
      }

  given_addable : Addable h given
  unfolding held_cap
  given_addable =
      record {
        null = null_held h valid destination (fills_null (told h).caps destination source mask takes);
        has_permissions = fills_leaves (told h).caps destination source mask takes;
        source_known = held_bound h source;
        within_source =
            λ j e.
            let cap : ((told h).caps source).permissions ≡ (h.fillings j).permissions = ap (λ (link : ℕ). (held_cap h.fillings link).permissions) e in
            rw cap (delegated_within_source (h.fillings j).permissions mask);
        place_exists = exists;
      }

  given_shows : new_cap h given ≡ handed ((told h).caps source) source mask
  given_shows = go (live_holds h valid source (fills_source (told h).caps destination source mask takes))
    where
      go : (k : ℕ) × (held h source ≡ suc k) → new_cap h given ≡ handed ((told h).caps source) source mask
      go (k, e) = rw e (handed_from h.fillings k source mask (held_is h valid source k e).0)

  pub give_filled : Follows (note (give destination source mask) h) (act (give destination source mask) (told h))
  unfolding note act
  give_filled = rw takes (added_follows h valid given (handed ((told h).caps source) source mask) given_addable given_shows)

-- the greatest permissions of a kind are some
pub greatest_some : (kind : ℕ) → kind ≤ SM → (kind ≡ free → ⊥) → 0 < greatest_of kind
greatest_some zero l n = absurd (n refl)
greatest_some (suc zero) l n = omega arith
greatest_some (suc (suc zero)) l n = omega arith
greatest_some (suc (suc (suc zero))) l n = omega arith
greatest_some (suc (suc (suc (suc zero)))) l n = omega arith
greatest_some (suc (suc (suc (suc (suc zero))))) l n = omega arith
greatest_some (suc (suc (suc (suc (suc (suc kind)))))) l n = absurd (omega arith)

module _ (h : History) (valid : Valid h) where
  pub give_follows : (destination source mask : ℕ) → GiveFits (told h) destination source →
      Follows (note (give destination source mask) h) (act (give destination source mask) (told h))
  unfolding note act
  give_follows destination source mask fit =
      cases (fills (told h).caps destination source mask) (λ (t : fills (told h).caps destination source mask ≡ true). give_filled h valid destination source mask fit.destination_small t)
      (λ (f : fills (told h).caps destination source mask ≡ false). rw f (refl, valid))

  pub hold_follows : (place number : ℕ) → Sound (told h) → HoldFits (told h) place number → Follows (note (hold place number) h) (act (hold place number) (told h))
  unfolding note act place_link
  hold_follows place number sound fit =
      let most = greatest_of (kind_of (told h) number) in
      added_follows h valid (record { place = place; resource = number; permissions = most; source = 0 }) (parentless number most)
      (record {
        null = null_held h valid place fit.null;
        has_permissions = greatest_some (kind_of (told h) number) (kind_small (told h) number (sound.unnameds number fit.is_record)) fit.used;
        source_known = omega arith;
        within_source = λ j e. absurd (omega arith);
        place_exists = fit.place_small;
      })
      refl

  -- other objects, which end where records and their words do, leave a history valid
  objects_valid : (objects : ℕ → ℕ → ℕ) → ((r i : ℕ) → records ≤ r → objects r i ≡ 0) → ((r i : ℕ) → record_words ≤ i → objects r i ≡ 0) →
      Valid (record { objects = objects; total = h.total; fillings = h.fillings })
  objects_valid objects ends words_end =
      record {
        older = valid.older;
        latest_live = valid.latest_live;
        source_within = valid.source_within;
        place_small = valid.place_small;
        records_end = ends;
        words_end = words_end;
      }

  put_ends : (number : ℕ) (row : ℕ → ℕ) (r i : ℕ) → row i ≡ 0 → record_words ≤ i → put h.objects number row r i ≡ 0
  put_ends number row r i e l =
      cases (eqb r number)
      (λ (t : eqb r number ≡ true). rw (eqb-true r number t, put_same h.objects number row) e)
      (λ (f : eqb r number ≡ false). rw (put_other h.objects number row r (eqb-false r number f)) (valid.words_end r i l))

  pub make_follows : (number : ℕ) (words : List ℕ) → MakeFits (told h) number words → Follows (note (make number words) h) (act (make number words) (told h))
  unfolding note act held
  make_follows number words fit = (
    refl,
    objects_valid (put h.objects number (word words))
        (λ r i l. rw (put_other h.objects number (word words) r (λ e. omega (arith, fit.is_record))) (valid.records_end r i l))
        (λ r i l. put_ends number (word words) r i (get_or-eq_default words 0 (omega (arith, fit.short))) l),
  )

  pub store_follows : (number from : ℕ) (words : List ℕ) → StoreFits (told h) number from words →
      Follows (note (store number from words) h) (act (store number from words) (told h))
  unfolding note act held
  store_follows number from words fit =
      let row = put_from (h.objects number) from words in (
        refl,
        objects_valid (put h.objects number row)
            (λ r i l. rw (put_other h.objects number row r (λ e. omega (arith, fit.is_record))) (valid.records_end r i l))
            (λ r i l.
            put_ends number row r i (put_from_past (h.objects number) from words i (omega (arith, fit.ends_inside)) ∙ valid.words_end number i l) l),
      )

  pub cut_follows : (mask first size : ℕ) (self : Bool) → Follows (note (cut mask first size self) h) (act (cut mask first size self) (told h))
  unfolding act note
  cut_follows mask first size self = (
    state_same (told (note (cut mask first size self) h)) (act (cut mask first size self) (told h)) (told_cut mask first size self h valid) (λ r i. refl),
    valid_cut mask first size self h valid,
  )
