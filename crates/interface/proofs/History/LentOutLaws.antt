-- What tables and the history of the same events say of each other: demand 3.
use Prim.Native.Nat.{ℕ, zero, suc, ◌^◌, ◌≤◌, ◌<◌}
use mathlib.Core.Path.{◌≡◌, refl, sym, ap, ◌∙◌, subst}
use mathlib.Core.Bool.{Bool, true, false, not, ◌&&◌, ◌||◌, and-false, or-false}
use mathlib.Core.List.{List, [], ◌∷◌, ◌++◌}
use native.Mathlib.Omega.{arith}
use lib.Dec.{eqb, ltb}
use lib.ListN.{length, drop}
use borrow.Author.Tests.{eq-eqb, ne_eqb, eqb-true, ltb-false}
use Rattle.words.specs.Sizes.{domain_of, space_of, places}
use Rattle.words.specs.Permissions.{revoked}
use Rattle.words.proofs.BitLaws.{revoked_ones}
use Rattle.words.proofs.PlaceLaws.{made_so}
use Rattle.descriptor.specs.declared.Reading.TheVariants.{Good}
use Rattle.std.specs.Prelude.{if◌then◌else◌, Ok}
use Rattle.interface.specs.Basics.{any}
use Rattle.interface.specs.Places.{State, Tables, live, nothing, domain_word, cap_at, place_table, object_table, tables_of}
use Rattle.interface.specs.Damage.{is_ec, sound_state}
use Rattle.interface.specs.RangeDescriptors.{reading}
use Rattle.interface.specs.Effects.{cut, chain, ancestors, among, below, stripped, cut_caps, act, run}
use Rattle.interface.specs.Verdicts.{Call, REVOKE, grant, reply_of, block_of}
use Rattle.interface.specs.Revoke.{revoke}
use Rattle.interface.specs.Rules.{hypercall_block, hypercall, called, rules, after, hypercall_reply, hypercall_tables}
use Rattle.interface.specs.Census.{descendants, counted}
use Rattle.interface.specs.History.{History, held, origins, told, held_among, note, heir, heirs, came_from}
use Rattle.interface.specs.Demand.{whole_mask, one_place, RevokesBelow, LentOut}
use Rattle.interface.proofs.Basics.BoolLaws.{cases, and_left, and_right, same_test}
use Rattle.interface.proofs.Basics.GatherLaws.{gather_same, gather_member, gather_rises}
use Rattle.interface.proofs.Basics.ChainLaws.{chain_any_none, any_same}
use Rattle.interface.proofs.Sound.Soundness.{Sound, facts_sound}
use Rattle.interface.proofs.Sound.GreatestLaws.{five_bits, whole_some, permissions_most}
use Rattle.interface.proofs.History.HistoryLaws.{Valid, latest_none, standing_none, held_none, held_is}
use Rattle.interface.proofs.History.CutLaws.{below_told, among_one, stripped_none}
use Rattle.interface.proofs.History.NoteLaws.{told_live, live_holds, cut_follows}
use Rattle.interface.proofs.Tables.TableLaws.{Ends, shown_cap, shown_tables}
use Rattle.interface.proofs.Tables.ShownLaws.{judged_shown, tables_shown, census_shown, counted_found}

module _ (h : History) (valid : Valid h) where
  -- what a history shows ends where the tables do
  pub told_ends : Ends (told h)
  unfolding held
  told_ends =
      record {
        places_end =
            λ p g.
            held_none h p
            (rw (latest_none h.fillings h.total p (λ k l e. omega (arith, valid.place_small k l))) (standing_none h.fillings));
        records_end = valid.records_end;
        words_end = valid.words_end;
      }

  -- a filling never came from itself
  pub not_from_itself : (k : ℕ) → k < h.total → any (eqb k) (origins h.fillings k) ≡ false
  unfolding origins
  not_from_itself k l =
      chain_any_none h.total k (λ j. (h.fillings j).source) (eqb k) valid.older (h.fillings k).source (omega (arith, valid.older k l))
      (λ j b. ne_eqb k j (λ e. omega (arith, valid.older k l)))

  module _ (place m : ℕ) (holds : held h place ≡ suc m) where
    -- being held at one place
    held_there : (j : ℕ) → held_among h place 1 j ≡ eqb m j
    unfolding held_among
    held_there j =
        let at = (h.fillings j).place in
        let here : (h.fillings m).place ≡ place = (held_is h valid place m holds).0 in
        same_test (among place 1 at && eqb (held h at) (suc j)) (eqb m j)
        (λ t.
        let same : place ≡ at = eqb-true place at (sym (among_one place at) ∙ and_left (among place 1 at) (eqb (held h at) (suc j)) t) in
        let e : held h at ≡ suc j = eqb-true (held h at) (suc j) (and_right (among place 1 at) (eqb (held h at) (suc j)) t) in
        let n : suc m ≡ suc j = sym holds ∙ ap (held h) same ∙ e in
        eq-eqb m j (omega arith))
        (λ t.
        let e : m ≡ j = eqb-true m j t in
        let same : at ≡ place = ap (λ (k : ℕ). (h.fillings k).place) (sym e) ∙ here in
        rw (among_one place at, same, holds, e, eq-eqb place place refl) (eq-eqb (suc j) (suc j) refl))

    -- a place that holds a filling is below another, and is its heir, exactly when the filling came from what that holds
    below_held : (other k : ℕ) → held h other ≡ suc k → below (told h).caps place 1 other ≡ any (eqb m) (origins h.fillings k)
    below_held other k e =
        let is = held_is h valid other k e in
        subst (λ (p : ℕ). below (told h).caps place 1 p ≡ any (eqb m) (origins h.fillings k)) is.0
        (below_told h valid place 1 k is.2 is.1 ∙ any_same (held_among h place 1) (eqb m) held_there (origins h.fillings k))

    heir_held : (other k : ℕ) → held h other ≡ suc k → heir h place other ≡ any (eqb m) (origins h.fillings k)
    unfolding heir came_from
    heir_held other k e =
        cases (eqb other place)
        (λ (t : eqb other place ≡ true).
        let n : suc k ≡ suc m = sym e ∙ ap (held h) (eqb-true other place t) ∙ holds in
        let same : k ≡ m = omega arith in
        rw (t, same) (sym (not_from_itself m (held_is h valid place m holds).2)))
        (λ (f : eqb other place ≡ false). rw (f, e, holds))

    below_none : (other : ℕ) → held h other ≡ 0 → below (told h).caps place 1 other ≡ false
    unfolding below ancestors chain any
    below_none other e = rw (held_none h other e)

    heir_none : (other : ℕ) → held h other ≡ 0 → heir h place other ≡ false
    unfolding heir came_from
    heir_none other e = rw e (and-false (not (eqb other place)))

    -- so a place is below another exactly when it is an heir
    pub below_heir : (other : ℕ) → below (told h).caps place 1 other ≡ heir h place other
    below_heir other = go (held h other) refl
      where
        go : (link : ℕ) → held h other ≡ link → below (told h).caps place 1 other ≡ heir h place other
        go zero e = below_none other e ∙ sym (heir_none other e)
        go (suc k) e = below_held other k e ∙ sym (heir_held other k e)

-- no permission is past the five bits of a mask
pub permissions_small : (s : State) (p : ℕ) → Sound s → p < places → (s.caps p).permissions < 2 ^ 5
permissions_small s p sound l =
    cases (live (s.caps p))
    (λ (t : live (s.caps p) ≡ true). omega (arith, permissions_most s p sound l t, five_bits (space_of p)))
    (λ (f : live (s.caps p) ≡ false). omega (arith, ltb-false 0 (s.caps p).permissions f))

-- a REVOKE of one place with all mask bits, by an EC of its domain: the whole mask has a permission of every space, so on a sound state it is granted, with one step
pub one_revoked : (s : State) (place : ℕ) (c : Call) (self : Bool) → sound_state s ≡ true → c.number ≡ REVOKE → is_ec s c.caller ≡ true →
    s.objects c.caller domain_word ≡ domain_of place → reading c.first ≡ Good (one_place place) → c.second ≡ (if self then 1 else 0) →
    rules s c ≡ grant 0 (cut whole_mask place 1 self ∷ [])
unfolding rules called hypercall revoke
one_revoked s place c true sound is_revoke by_ec of_domain descriptor is_self =
    rw (sound, is_revoke, by_ec, is_self, descriptor, whole_some (space_of place), of_domain, made_so place)
one_revoked s place c false sound is_revoke by_ec of_domain descriptor is_self =
    rw (sound, is_revoke, by_ec, is_self, descriptor, whole_some (space_of place), of_domain, made_so place)

module _ (h : History) (valid : Valid h) (sound : Sound (told h)) where
  -- the tables of a history show what it shows
  cap_of : (p : ℕ) → cap_at (place_table (told h)) p ≡ (told h).caps p
  cap_of = shown_cap (told h) (told_ends h valid)

  lives_held : (place : ℕ) → place < places → live (cap_at (place_table (told h)) place) ≡ ltb 0 (held h place)
  lives_held place l = rw (cap_of place) (told_live h valid place)

  found_heirs : (place : ℕ) → live ((told h).caps place) ≡ true → descendants (told h).caps place ≡ heirs h place
  unfolding descendants
  found_heirs place t =
      let one = live_holds h valid place t in
      gather_same places (below (told h).caps place 1) (heir h place) (λ q b. below_heir h valid place one.0 one.1 q)

  census_of_lem : (place : ℕ) → place < places → live ((told h).caps place) ≡ true → (list : List ℕ) → length (heirs h place) ≤ length list →
      counted (told h) place list ≡ record { reply = Ok (length (heirs h place)); list = heirs h place ++ drop (length (heirs h place)) list }
  census_of_lem place l t list enough = counted_found (told h) place (heirs h place) list l t (found_heirs place t) enough

  module _ (place : ℕ) (c : Call) (revokes : RevokesBelow (told h) place c) where
    granted : rules (told h) c ≡ grant 0 (cut whole_mask place 1 false ∷ [])
    granted =
        one_revoked (told h) place c false (facts_sound (told h) sound) revokes.is_revoke revokes.by_ec revokes.of_domain revokes.descriptor revokes.without_self

    abbrev revoked_state : State
    revoked_state = act (cut whole_mask place 1 false) (told h)

    revoked_ends : Ends revoked_state
    revoked_ends =
        let follows = cut_follows h valid whole_mask place 1 false in
        subst Ends follows.0 (told_ends (note (cut whole_mask place 1 false) h) follows.1)

    reply_of_lem : hypercall_reply (tables_of (told h)) c ≡ Ok 0
    reply_of_lem = ap reply_of (judged_shown (told h) (told_ends h valid) c ∙ granted)

    state_of_lem : after (told h) c ≡ revoked_state
    unfolding after run
    state_of_lem = rw granted

    tables_of_lem : hypercall_tables (tables_of (told h)) c ≡ tables_of revoked_state
    tables_of_lem = tables_shown (told h) (told_ends h valid) c ∙ ap tables_of state_of_lem

    objects_of : object_table revoked_state ≡ object_table (told h)
    unfolding act
    objects_of = refl

    -- the heirs are null, and every other place is as it was
    caps_of : (other : ℕ) → other < places → live ((told h).caps place) ≡ true → revoked_state.caps other ≡ (if heir h place other then nothing else (told h).caps other)
    unfolding act cut_caps
    caps_of other l t =
        let one = live_holds h valid place t in
        let reached : (below (told h).caps place 1 other || (false && among place 1 other)) ≡ heir h place other =
        or-false (below (told h).caps place 1 other) ∙ below_heir h valid place one.0 one.1 other
        in
        let gone : stripped whole_mask ((told h).caps other) ≡ nothing =
        stripped_none whole_mask ((told h).caps other)
        (eq-eqb (revoked ((told h).caps other).permissions whole_mask) 0
        (revoked_ones 5 ((told h).caps other).permissions (permissions_small (told h) other sound l)))
        in
        rw (reached, gone)

    revoke_of : live ((told h).caps place) ≡ true →
        (hypercall_reply (tables_of (told h)) c ≡ Ok 0) ×
        ((other : ℕ) → other < places →
        cap_at (hypercall_tables (tables_of (told h)) c).places other ≡ (if heir h place other then nothing else cap_at (place_table (told h)) other)) ×
        ((hypercall_tables (tables_of (told h)) c).objects ≡ object_table (told h)) ×
        (hypercall_block (tables_of (told h)) c ≡ c.target)
    revoke_of t = (
      reply_of_lem,
      (λ other l.
          rw (tables_of_lem, cap_of other) (shown_cap revoked_state revoked_ends other ∙ caps_of other l t)),
      ap (λ (x : Tables). x.objects) tables_of_lem ∙ objects_of,
      ap (block_of c.target) (judged_shown (told h) (told_ends h valid) c ∙ granted),
    )

  -- demand 3 at the tables of a history
  pub lent_out : LentOut (tables_of (told h)) h
  lent_out =
      record {
        same_state = refl;
        live_held = lives_held;
        heirs_exact = λ place other. gather_member other places (heir h place);
        heirs_rise = λ place. gather_rises places (heir h place);
        census_exact =
            λ place l t list enough.
            census_shown (told h) (told_ends h valid) (facts_sound (told h) sound) place list ∙ census_of_lem place l (rw (cap_of place) at t) list enough;
        revoke_exact =
            λ place l t c revokes.
            revoke_of place c (subst (λ (s : State). RevokesBelow s place c) (shown_tables (told h) (told_ends h valid)) revokes) (rw (cap_of place) at t);
      }
