-- Revocation is exact: a REVOKE that succeeds takes one cut of its range, or no step for a null descriptor. And the cut of a range whose mask has no permission of its space would
-- change nothing.
use Rattle.std.specs.Prelude.{Ok}
use Prim.Native.Nat.{ℕ, ◌+◌, ◌^◌, ◌<◌}
use mathlib.Core.Path.{◌≡◌, refl, sym, ap, ◌∙◌}
use mathlib.Core.Logic.{⊎_elim}
use mathlib.Core.Bool.{Bool, true, false, not, ◌&&◌, false≢true}
use native.Mathlib.Omega.{arith}
use lib.Dec.{eqb, leb, ltb}
use borrow.Author.Tests.{ltb-true, ltb-false, leb-true, eqb-true, ne_eqb}
use Rattle.words.specs.Sizes.{places, place_of, space_of}
use Rattle.words.specs.Permissions.{delegated, revoked, within}
use Rattle.words.proofs.BitLaws.{within_le, delegated_respects, revoked_kept}
use Rattle.descriptor.specs.declared.Range.{Range}
use Rattle.descriptor.specs.declared.Reading.{Reading}
use Rattle.descriptor.specs.declared.Reading.TheVariants.{Null, Malformed, Good}
use Rattle.descriptor.specs.Descriptors.{Proper, ReadProper}
use Rattle.descriptor.proofs.DescriptorLaws.{good_proper, proper_space}
use Rattle.reply.specs.declared.Refusal.TheVariants.{BadPar}
use Rattle.interface.specs.Places.{Cap, State, Tables, live, nothing, shown, greatest_in}
use Rattle.interface.specs.Damage.{sound}
use Rattle.interface.specs.RangeDescriptors.{reading, malformed}
use Rattle.interface.specs.Effects.{among, below, stripped, cut_caps, act, run}
use Rattle.interface.specs.Verdicts.{Call, REVOKE, grant, require◌else◌then◌, caller_domain, reply_of}
use Rattle.interface.specs.Revoke.{mask_is_outside, cuts, revoke}
use Rattle.interface.specs.Rules.{hypercall, rules, after}
use Rattle.interface.specs.Consequences.{RevokesExactly, NothingLost}
use Rattle.interface.proofs.Basics.BoolLaws.{cases, and_left, and_right, either}
use Rattle.interface.proofs.Sound.Soundness.{Sound, sound_facts}
use Rattle.interface.proofs.Sound.PlaceFacts.{null_cap, parent_child}
use Rattle.interface.proofs.Sound.GreatestLaws.{permissions_within}
use Rattle.interface.proofs.Sound.CutSound.{below_space, reached, cut_kept, cut_stripped}
use Rattle.interface.proofs.History.CutLaws.{cut_nothing}
use Rattle.interface.proofs.Refusals.MaskRefusals.{fields_outside}
use Rattle.interface.proofs.Tables.TableLaws.{cap_at_end, places_long, sound_sized, sound_shown, state_same}
use Rattle.interface.proofs.Tables.VerdictLaws.{succeeds, rule_succeeds, after_verdict}

-- a revocation moves no object
cuts_objects : (s : State) (domain : ℕ) (self : Bool) (read : Reading) → (run (cuts domain self read) s).objects ≡ s.objects
unfolding run act
cuts_objects s domain self Null = refl
cuts_objects s domain self Malformed = refl
cuts_objects s domain self (Good range) = refl

-- a REVOKE that succeeds takes the steps of its descriptor's revocation
after_revoke : (s : State) (c : Call) (answer : ℕ) → c.number ≡ REVOKE → reply_of (rules s c) ≡ Ok answer →
    after s c ≡ run (cuts (caller_domain s c) (eqb c.second 1) (reading c.first)) s
unfolding hypercall revoke
after_revoke s c answer n h =
    let read = reading c.first in
    let last = grant 0 (cuts (caller_domain s c) (eqb c.second 1) read) in
    let masked = require not (mask_is_outside read) else BadPar then last in
    let checked = require not (malformed read) else BadPar then masked in
    let by_rule = rule_succeeds s c answer revoke (rw n) h in
    let behind_self = by_rule ∙ succeeds (leb c.second 1) BadPar checked answer (λ z. omega arith) (ap reply_of (sym by_rule) ∙ h) in
    let behind_reading = behind_self ∙ succeeds (not (malformed read)) BadPar masked answer (λ z. omega arith) (ap reply_of (sym behind_self) ∙ h) in
    let granted = behind_reading ∙ succeeds (not (mask_is_outside read)) BadPar last answer (λ z. omega arith) (ap reply_of (sym behind_reading) ∙ h) in
    after_verdict s c last granted

-- no step leaves the state, and a cut leaves each place as its definition says
pub revokes_exactly : RevokesExactly
unfolding run act cut_caps
revokes_exactly s c answer n h =
    let left = after_revoke s c answer n h in (
      rw left (cuts_objects s (caller_domain s c) (eqb c.second 1) (reading c.first)),
      (λ e. rw (left, e)),
      (λ range e place. rw (left, e)),
    )

-- stripping takes nothing from a live place whose permissions are among some of which the mask has none
stripped_same : (mask most : ℕ) (cap : Cap) → delegated most mask ≡ 0 → within cap.permissions most ≡ true → live cap ≡ true → stripped mask cap ≡ cap
unfolding stripped
stripped_same mask most cap none inside alive =
    let few = within_le (delegated cap.permissions mask) (delegated most mask) (delegated_respects cap.permissions most mask inside) in
    let same : revoked cap.permissions mask ≡ cap.permissions = revoked_kept cap.permissions mask (omega arith) in
    rw (same, ne_eqb cap.permissions 0 (omega (arith, ltb-true 0 cap.permissions alive)))

module _ (tables : Tables) (good : sound tables ≡ true) (domain : ℕ) (self : Bool) where
  abbrev s : State
  s = shown tables

  k : Sound s
  k = sound_facts s (sound_shown tables good)

  module _ (range : Range) (proper : Proper range) (none : delegated (greatest_in range.space) range.mask ≡ 0) where
    abbrev first : ℕ
    first = place_of domain range.space range.base

    abbrev size : ℕ
    size = 2 ^ range.order

    range_space : (p : ℕ) → among first size p ≡ true → space_of p ≡ range.space
    range_space p h =
        proper_space domain range proper p (leb-true first p (and_left (leb first p) (ltb p (first + size)) h))
        (ltb-true p (first + size) (and_right (leb first p) (ltb p (first + size)) h))

    abbrev cut_at : ℕ → Bool
    cut_at = reached s range.mask first size self

    -- a place that is cut is of the range's space
    cut_space : (p : ℕ) → p < places → cut_at p ≡ true → space_of p ≡ range.space
    cut_space p l h =
        ⊎_elim
        (λ (b : below s.caps first size p ≡ true).
        below_space s.caps first size range.space range_space
        (λ r q m e. let c = parent_child s k r q m e in (c.is_place, c.same_space, c.deeper)) p l b)
        (λ (a : (self && among first size p) ≡ true). range_space p (and_right self (among first size p) a))
        (either (below s.caps first size p) (self && among first size p) h)

    -- so it keeps all its permissions, where it is live; and a null one stays null
    live_stays : (p : ℕ) → p < places → live (s.caps p) ≡ true → cut_caps range.mask first size self s.caps p ≡ s.caps p
    live_stays p l t =
        cases (cut_at p)
        (λ (h : cut_at p ≡ true).
        cut_stripped s range.mask first size self p h ∙
        stripped_same range.mask (greatest_in (space_of p)) (s.caps p) (rw (cut_space p l h) none) (permissions_within s p k l t) t)
        (λ (h : cut_at p ≡ false). cut_kept s range.mask first size self p h)

    null_stays : (p : ℕ) → s.caps p ≡ nothing → cut_caps range.mask first size self s.caps p ≡ s.caps p
    null_stays p e = cut_nothing range.mask first size self s.caps p e ∙ sym e

    cap_stays : (p : ℕ) → cut_caps range.mask first size self s.caps p ≡ s.caps p
    cap_stays p =
        cases (ltb p places)
        (λ (i : ltb p places ≡ true).
        let l : p < places = ltb-true p places i in
        cases (live (s.caps p)) (λ (t : live (s.caps p) ≡ true). live_stays p l t)
        (λ (f : live (s.caps p) ≡ false). null_stays p (null_cap s p (k.nulls p l) f)))
        (λ (o : ltb p places ≡ false). null_stays p (cap_at_end tables.places (places_long tables (sound_sized tables good)) p (ltb-false p places o)))

  lost_none : (read : Reading) → ReadProper read → ((read ≡ Malformed → ⊥) → mask_is_outside read ≡ true) → run (cuts domain self read) s ≡ s
  unfolding run act
  lost_none Null proper outside = refl
  lost_none Malformed proper outside = refl
  lost_none (Good range) proper outside =
      state_same _ s (cap_stays range (proper range refl) (eqb-true (delegated (greatest_in range.space) range.mask) 0 (outside (λ e. false≢true (ap malformed e))))) (λ r i. refl)

pub nothing_lost : NothingLost
nothing_lost tables descriptor domain self good outside =
    lost_none tables good domain self (reading descriptor) (good_proper descriptor) (λ formed. fields_outside descriptor formed outside)
