-- The rules of damage taken together: a state is sound exactly where its PDs, its other records and its places keep theirs.
use Rattle.std.specs.Prelude.{Option, Some, None}
use Prim.Native.Nat.{ℕ}
use mathlib.Core.Path.{◌≡◌, sym, ◌∙◌}
use mathlib.Core.Bool.{Bool, true, false, not, ◌&&◌}
use mathlib.Core.List.{List}
use native.Mathlib.Omega.{arith}
use lib.ListN.{length}
use Rattle.words.specs.Sizes.{stride, places, records}
use Rattle.interface.specs.Basics.{all_below}
use Rattle.interface.specs.Places.{State, Tables, nothing, place_table_words, object_table_words, sized, shown, tables, places_in}
use Rattle.interface.specs.Damage.{fixed_place, used_first, pds_below, pd_rule, sound_state, sound}
use Rattle.interface.proofs.Basics.BoolLaws.{cases, both, same_test, not_both}
use Rattle.interface.proofs.Basics.BelowLaws.{all_below_at, all_below_lem}
use Rattle.interface.proofs.Basics.LoopLaws.{answered_yes, answered_no}
use Rattle.interface.proofs.Tables.TableLaws.{places_long, objects_long, sound_sized, sound_shown}
use Rattle.interface.proofs.Sound.Soundness.{OfRecords, OfPlaces, sound_facts, facts_sound}
use Rattle.record_rules.specs.RecordKeeping.{records_in, record_keeps, Numbered, Kept, counted_pds}
use Rattle.record_rules.proofs.PdLaws.{turns_kept, turns_broken}
use Rattle.record_rules.proofs.RecordParts.{caps_apart, record_parts}
use Rattle.place_rules.specs.PlaceKeeping.{place_keeps}
use Rattle.place_rules.proofs.PlaceTests.{place_parts}

module _ (s : State) where
  -- the three parts of a state keep their rules
  pub record Parts : Type 0 where
    pub pds : OfRecords (pd_rule s)
    pub others : OfRecords (record_keeps s)
    pub all_places : OfPlaces (place_keeps s)

  pub sound_parts : sound_state s ≡ true → Parts
  unfolding record_keeps place_keeps
  sound_parts h =
      let k = sound_facts s h in
      record {
        pds = k.pds;
        others =
            λ r l. rw (k.fixed_records r l, k.interrupts r l, k.unnameds r l, k.used_firsts r l, k.ecs r l, k.scs r l, k.pts r l);
        all_places = λ p l. rw (k.fixed_places p l, k.nulls p l, k.lives p l, k.shallows p l);
      }

  pub parts_sound : Parts → sound_state s ≡ true
  parts_sound k =
      facts_sound s
      (record {
        fixed_records = λ r l. (record_parts s r (k.others r l)).0.0;
        fixed_places = λ p l. (place_parts s p (k.all_places p l)).0;
        interrupts = λ r l. (record_parts s r (k.others r l)).0.1;
        unnameds = λ r l. (record_parts s r (k.others r l)).0.2;
        used_firsts = λ r l. (record_parts s r (k.others r l)).0.3;
        pds = k.pds;
        ecs = λ r l. (record_parts s r (k.others r l)).1;
        scs = λ r l. (record_parts s r (k.others r l)).2;
        pts = λ r l. (record_parts s r (k.others r l)).3;
        nulls = λ p l. (place_parts s p (k.all_places p l)).1;
        lives = λ p l. (place_parts s p (k.all_places p l)).2;
        shallows = λ p l. (place_parts s p (k.all_places p l)).3;
      })

-- tables that have the right lengths
module _ (place_table_lem object_table_lem : List ℕ) (answer : Bool) (asked : answer ≡ sized (tables place_table_lem object_table_lem)) (yes : not answer ≡ false) where
  both_right : sized (tables place_table_lem object_table_lem) ≡ true
  both_right = answered_yes answer (sized (tables place_table_lem object_table_lem)) asked yes

  pub places_right : length place_table_lem ≡ place_table_words
  places_right = places_long (tables place_table_lem object_table_lem) both_right

  pub objects_right : length object_table_lem ≡ object_table_words
  objects_right = objects_long (tables place_table_lem object_table_lem) both_right

  -- and used records that come first, and PDs that keep their rule and have been counted
  pub numbered_so : {pds : ℕ} (found : (Option ℕ)) → found ≡ counted_pds (records_in object_table_lem) → found ≡ Some pds → Numbered object_table_lem pds
  numbered_so {pds} found is_found in_turn_lem =
      let kept = turns_kept (records_in object_table_lem) pds (sym is_found ∙ in_turn_lem) in
      record { long = objects_right; used = kept.0; in_turn_lem = kept.1; counted = kept.2 }

-- and other records that keep theirs
pub kept_so : {table : List ℕ} {pds : ℕ} → Numbered table pds → (kept : Bool) → kept ≡ all_below records (record_keeps (records_in table)) → not kept ≡ false →
    Kept table pds
kept_so {table} numbered kept e f = record { numbered = numbered; others = answered_yes kept (all_below records (record_keeps (records_in table))) e f }

module _ (tables : Tables) where
  -- tables that break a part are not sound
  not_sound : (sound tables ≡ true → ⊥) → false ≡ sound tables
  not_sound n = cases (sound tables) (λ (t : sound tables ≡ true). absurd (n t)) (λ (f : sound tables ≡ false). sym f)

  parts : sound tables ≡ true → Parts (shown tables)
  parts h = sound_parts (shown tables) (sound_shown tables h)

  pub pds_broken : (found : (Option ℕ)) → found ≡ counted_pds (records_in tables.objects) → found ≡ None → false ≡ sound tables
  unfolding used_first pds_below pd_rule
  pds_broken found is_found out =
      let s = records_in tables.objects in
      not_sound
      (λ h.
      let used = all_below_lem records (used_first s) (λ r l. (record_parts (shown tables) r ((parts h).others r l)).0.3) in
      let kept = all_below_lem records (pd_rule s) (parts h).pds in
      not_both (all_below records (used_first s) && all_below records (pd_rule s)) (both (all_below records (used_first s)) (all_below records (pd_rule s)) used kept)
      (turns_broken s (sym is_found ∙ out)))

  module _ (answer : Bool) where
    pub sizes_broken : answer ≡ sized tables → not answer ≡ true → false ≡ sound tables
    sizes_broken e f = not_sound (λ h. answered_no answer (sized tables) e f (sound_sized tables h))

    pub records_broken : answer ≡ all_below records (record_keeps (records_in tables.objects)) → not answer ≡ true → false ≡ sound tables
    records_broken e f =
        not_sound
        (λ h.
        answered_no answer (all_below records (record_keeps (records_in tables.objects))) e f
        (all_below_lem records (record_keeps (records_in tables.objects))
        (λ r l. rw (caps_apart (λ p. nothing) (shown tables).caps (shown tables).objects r) ((parts h).others r l))))

    pub hypervisor_broken : answer ≡ all_below stride (fixed_place (places_in tables.places)) → not answer ≡ true → false ≡ sound tables
    unfolding fixed_place
    hypervisor_broken e f =
        not_sound
        (λ h.
        answered_no answer (all_below stride (fixed_place (places_in tables.places))) e f
        (all_below_lem stride (fixed_place (places_in tables.places))
        (λ p l. (place_parts (shown tables) p ((parts h).all_places p (omega arith))).0)))

    -- tables whose lengths and records are right are sound exactly where their places keep the rules
    pub places_decide : {pds : ℕ} → sized tables ≡ true → Kept tables.objects pds → answer ≡ all_below places (place_keeps (shown tables)) → answer ≡ sound tables
    unfolding pds_below pd_rule sound
    places_decide right kept e =
        e ∙
        same_test (all_below places (place_keeps (shown tables))) (sized tables && sound_state (shown tables))
        (λ (t : all_below places (place_keeps (shown tables)) ≡ true).
        both (sized tables) (sound_state (shown tables)) right
        (parts_sound (shown tables)
        (record {
          pds = all_below_at records (pd_rule (records_in tables.objects)) kept.numbered.in_turn_lem;
          others =
              λ r l.
              rw (caps_apart (shown tables).caps (λ p. nothing) (shown tables).objects r)
              (all_below_at records (record_keeps (records_in tables.objects)) kept.others r l);
          all_places = all_below_at places (place_keeps (shown tables)) t;
        })))
        (λ (h : (sized tables && sound_state (shown tables)) ≡ true). all_below_lem places (place_keeps (shown tables)) (parts h).all_places)
