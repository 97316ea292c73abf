-- What repair does to tables: it is what it does to the state that they show.
use Prim.Native.Nat.{ℕ, zero, suc, ◌+◌, ◌<◌}
use mathlib.Core.Path.{◌≡◌, refl, sym, ap, ◌∙◌}
use mathlib.Core.Logic.{inl, inr, ⊎_elim}
use mathlib.Core.Bool.{Bool, true, false, not, ◌&&◌}
use native.Mathlib.Omega.{arith}
use lib.Dec.{eqb, ltb}
use lib.ListN.{length}
use borrow.Author.Tests.{eq-eqb, ltb-true, ltb-false}
use Rattle.words.specs.Sizes.{stride, places}
use Rattle.std.specs.Prelude.{if◌then◌else◌}
use Rattle.interface.specs.Basics.{count_below}
use Rattle.interface.specs.Places.{Cap, State, Tables, live, nothing, place_table_words, object_table_words, sized, cap_at, shown, place_table, tables_of}
use Rattle.interface.specs.Damage.{sound}
use Rattle.interface.proofs.Basics.BoolLaws.{cases, not_both, both}
use Rattle.interface.proofs.Sound.Soundness.{Sound, sound_facts, facts_sound}
use Rattle.interface.proofs.Sound.PlaceFacts.{some_live}
use Rattle.interface.proofs.Tables.TableLaws.{cap_at_end, cap_table_back, record_table_back, records_past, words_past, places_long, objects_long, sound_sized, sound_shown, Ends, tables_sized, shown_tables, state_sound}
use Rattle.places.proofs.CapTableLaws.{cap_table_same}
use Rattle.repair_rules.specs.Repair.{whole, stays, repaired_cap, repaired_state, repaired, lost, repairing}
use Rattle.repair_rules.specs.RepairFacts.{WholeChain, Long, StaysExactly, EmptiesExactly, RecordsKeep, HypervisorMends, SoundAfter, RepairsOnce, RepairAnswers}
use Rattle.repair_rules.proofs.ChainLaws.{found_exactly}
use Rattle.repair_rules.proofs.StateLaws.{stays_cap, gone_cap, stays_live, stays_whole, stays_there, stays_elsewhere, dead_gone, broken_gone, live_stays, once_cap, sound_same, keeps_mends, records_by_number, left_sound, sound_mends}

-- lengths as facts and as a test
pub sized_long : (t : Tables) → sized t ≡ true → Long t
sized_long t h = record { places_long = places_long t h; objects_long = objects_long t h }

pub long_sized : (t : Tables) → Long t → sized t ≡ true
unfolding sized
long_sized t l =
    both (eqb (length t.places) place_table_words) (eqb (length t.objects) object_table_words) (eq-eqb (length t.places) place_table_words l.places_long)
    (eq-eqb (length t.objects) object_table_words l.objects_long)

-- tables of the right lengths
module _ (t : Tables) (fit : sized t ≡ true) where
  abbrev s : State
  s = shown t

  left_ends : Ends (repaired_state s)
  left_ends =
      record {
        places_end = λ p l. let none : s.caps p ≡ nothing = cap_at_end t.places (places_long t fit) p l in gone_cap s p (dead_gone s p (rw none));
        records_end = λ r i l. records_past t.objects (objects_long t fit) r i l;
        words_end = λ r i l. words_past t.objects r i l;
      }

  -- the repaired tables are those of the repaired state, and show it
  pub repaired_tables : repaired t ≡ tables_of (repaired_state s)
  unfolding repaired
  repaired_tables =
      rw fit
      (ap (λ objects. record { places = place_table (repaired_state s); objects = objects }) (sym (record_table_back t.objects (objects_long t fit))))

  pub shown_repaired : shown (repaired t) ≡ repaired_state s
  shown_repaired = ap shown repaired_tables ∙ shown_tables (repaired_state s) left_ends

  pub repaired_cap_lem : (p : ℕ) → cap_at (repaired t).places p ≡ repaired_cap s p
  repaired_cap_lem p = ap (λ (st : State). st.caps p) shown_repaired

  pub repaired_sized : sized (repaired t) ≡ true
  repaired_sized = ap sized repaired_tables ∙ tables_sized (repaired_state s)

  repaired_sound : Sound (repaired_state s) → sound (repaired t) ≡ true
  repaired_sound k = ap sound repaired_tables ∙ state_sound (repaired_state s) left_ends (facts_sound (repaired_state s) k)

  sound_repaired : sound (repaired t) ≡ true → Sound (repaired_state s)
  sound_repaired h = sound_facts (repaired_state s) (rw shown_repaired at (sound_shown (repaired t) h))

  -- a place that stays, and one that does not
  here_stays : (p : ℕ) → stays s p ≡ true → cap_at (repaired t).places p ≡ cap_at t.places p
  here_stays p h = repaired_cap_lem p ∙ stays_cap s p h

  here_gone : (p : ℕ) → stays s p ≡ false → cap_at (repaired t).places p ≡ nothing
  here_gone p h = repaired_cap_lem p ∙ gone_cap s p h

  same_caps : ((p : ℕ) → p < places → repaired_cap s p ≡ s.caps p) → repaired t ≡ t
  unfolding repaired
  same_caps same =
      rw fit
      (ap (λ places. record { places = places; objects = t.objects })
      (cap_table_same (repaired_cap s) s.caps same ∙ cap_table_back t.places (places_long t fit)))

pub others_stay : (t : Tables) → sized t ≡ false → repaired t ≡ t
unfolding repaired
others_stay t f = rw f

-- a place with some permission is live, and one with none is not
has_some : (cap : Cap) → (cap.permissions ≡ 0 → ⊥) → live cap ≡ true
has_some cap some = some_live cap.permissions some

has_none : (cap : Cap) → cap.permissions ≡ 0 → live cap ≡ false
has_none cap none = rw none

pub stays_exactly : StaysExactly
stays_exactly =
    record {
      staying =
          λ s p. (
            (λ h.
                let alive = stays_live s p h in (
                  (λ none. not_both (live (s.caps p)) alive (has_none (s.caps p) none)),
                  cases (ltb p stride) (λ (t : ltb p stride ≡ true). inl (ltb-true p stride t))
                      (λ (f : ltb p stride ≡ false).
                      let past = ltb-false p stride f in
                      inr ((found_exactly s p alive).0 (stays_elsewhere s p h (λ e. omega arith)))),
                )),
            (λ (some, why).
                let alive = has_some (s.caps p) some in
                ⊎_elim (λ (l : p < stride). stays_there s p alive (omega arith)) (λ (c : WholeChain s p). stays_whole s p alive ((found_exactly s p alive).1 c)) why),
          );
    }

pub empties_exactly : EmptiesExactly
empties_exactly =
    record {
      null_emptied = λ t l p small none. here_gone t (long_sized t l) p (dead_gone (shown t) p (has_none (cap_at t.places p) none));
      broken_emptied =
          λ t l p small past broken.
          here_gone t (long_sized t l) p
          (cases (live (cap_at t.places p))
          (λ (a : live (cap_at t.places p) ≡ true).
          broken_gone (shown t) p (λ e. omega arith)
          (cases (whole (shown t) p) (λ (w : whole (shown t) p ≡ true). absurd (broken ((found_exactly (shown t) p a).0 w)))
          (λ (n : whole (shown t) p ≡ false). n)))
          (λ (d : live (cap_at t.places p) ≡ false). dead_gone (shown t) p d));
      whole_stays =
          λ t l p small some chain.
          let a = has_some (cap_at t.places p) some in
          here_stays t (long_sized t l) p (stays_whole (shown t) p a ((found_exactly (shown t) p a).1 chain));
      hypervisor_stays =
          λ t l p small some. here_stays t (long_sized t l) p (stays_there (shown t) p (has_some (cap_at t.places p) some) (omega arith));
      objects_stay = objects_same;
      as_long = length_same;
      others_stay =
          λ t wrong.
          cases (sized t) (λ (f : sized t ≡ true). absurd (wrong (sized_long t f))) (λ (f : sized t ≡ false). others_stay t f);
    }
  where
    objects_same : (t : Tables) → (repaired t).objects ≡ t.objects
    objects_same t =
        cases (sized t) (λ (f : sized t ≡ true). ap (λ (r : Tables). r.objects) (repaired_tables t f) ∙ record_table_back t.objects (objects_long t f))
        (λ (f : sized t ≡ false). ap (λ (r : Tables). r.objects) (others_stay t f))

    length_same : (t : Tables) → length (repaired t).places ≡ length t.places
    length_same t =
        cases (sized t) (λ (f : sized t ≡ true). places_long (repaired t) (repaired_sized t f) ∙ sym (places_long t f))
        (λ (f : sized t ≡ false). ap (λ (r : Tables). length r.places) (others_stay t f))

-- soundness afterwards
mended_sound : (t : Tables) → Long t → RecordsKeep (shown t) → HypervisorMends (shown t) → sound (repaired t) ≡ true
mended_sound t l keeps mends = repaired_sound t (long_sized t l) (left_sound (shown t) keeps mends)

sound_mended : (t : Tables) → sound (repaired t) ≡ true → Long t × RecordsKeep (shown t) × HypervisorMends (shown t)
sound_mended t h =
    cases (sized t)
    (λ (f : sized t ≡ true).
    let k = sound_repaired t f h in
    (sized_long t f, records_by_number (shown t) k, sound_mends (shown t) k))
    (λ (f : sized t ≡ false). not_both (sized t) (sound_sized t (rw (others_stay t f) at h)) f)

pub sound_after : SoundAfter
sound_after =
    record {
      if_records_were = λ t l keeps there. mended_sound t l keeps (keeps_mends (shown t) there);
      exactly = λ t. (sound_mended t, (λ (l, keeps, mends). mended_sound t l keeps mends));
    }

-- repairing once more
pub repairs_once : RepairsOnce
repairs_once =
    record {
      sound_stays = λ t h. same_caps t (sound_sized t h) (sound_same (shown t) (sound_facts (shown t) (sound_shown t h)));
      once =
          λ t.
          cases (sized t)
          (λ (f : sized t ≡ true).
          same_caps (repaired t) (repaired_sized t f)
          (λ p l. ap (λ (s : State). repaired_cap s p) (shown_repaired t f) ∙ once_cap (shown t) p ∙ sym (repaired_cap_lem t f p)))
          (λ (f : sized t ≡ false). ap repaired (others_stay t f));
    }

-- tests that hold together of as many numbers as a third
counts_add : (n : ℕ) (a b c : ℕ → Bool) → ((i : ℕ) → (if a i then 1 else 0) + (if b i then 1 else 0) ≡ (if c i then 1 else 0)) →
    count_below n a + count_below n b ≡ count_below n c
unfolding count_below
counts_add zero a b c h = refl
counts_add (suc n) a b c h = let before = counts_add n a b c h in omega (arith, h n)

pub repair_answers : RepairAnswers
unfolding repairing lost
repair_answers =
    record {
      refused = λ t h. rw h;
      mends = λ t h. rw h;
      counts =
          λ t l.
          counts_add places (λ p. live (cap_at t.places p) && not (stays (shown t) p)) (λ p. live (cap_at (repaired t).places p)) (λ p. live (cap_at t.places p))
          (λ p. rw (repaired_cap_lem t (long_sized t l) p, live_stays (shown t) p) (lost_or_left p (shown t)));
    }
  where
    lost_or_left : (p : ℕ) (s : State) → (if live (s.caps p) && not (stays s p) then 1 else 0) + (if stays s p then 1 else 0) ≡ (if live (s.caps p) then 1 else 0)
    lost_or_left p s =
        cases (stays s p) (λ (t : stays s p ≡ true). rw (t, stays_live s p t))
        (λ (f : stays s p ≡ false).
        cases (live (s.caps p)) (λ (t : live (s.caps p) ≡ true). rw (f, t)) (λ (g : live (s.caps p) ≡ false). rw (f, g)))
