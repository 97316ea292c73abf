-- What each creation leaves.
use Rattle.std.specs.Prelude.{Ok}
use Prim.Native.Nat.{ℕ, ◌+◌, ◌≤◌, ◌<◌}
use mathlib.Core.Path.{◌≡◌, refl, sym, ap, ◌∙◌}
use mathlib.Core.Bool.{true, false}
use mathlib.Core.List.{List, [], ◌∷◌}
use native.Mathlib.Omega.{arith}
use lib.Dec.{ltb}
use lib.ListN.{length, get_or-eq_default}
use borrow.Author.Tests.{ltb-true}
use Rattle.words.specs.Sizes.{domains, domain_of}
use Rattle.descriptor.proofs.DescriptorLaws.{good_proper}
use Rattle.interface.specs.Basics.{word}
use Rattle.interface.specs.Places.{State, parentless, PD, EC, SC, PT, SM, kind_word, domain_word, cpu_word, event_base_word, ec_word, priority_word, quantum_word, mtd_word, entry_word, identifier_word, count_word, named_words, greatest_of, kind_of}
use Rattle.interface.specs.Damage.{sound_state, has_pd, is_ec}
use Rattle.interface.specs.RangeDescriptors.{reading}
use Rattle.interface.specs.Effects.{hold, act, run}
use Rattle.interface.specs.Verdicts.{Call, CREATE_PD, CREATE_EC, CREATE_SC, CREATE_PT, CREATE_SM, caller_domain, Verdict, grant, reply_of}
use Rattle.interface.specs.Creations.{new_place, free_record, next_domain, Creation, creation, initial_good, initial_gives, create_pd, create_ec, create_sc, create_pt, create_sm}
use Rattle.interface.specs.Rules.{hypercall, rules, after}
use Rattle.interface.specs.Created.{Created, PlacesStay, PdCreated, EcCreated, ScCreated, PtCreated, SmCreated, CreatedExactly}
use Rattle.interface.proofs.Basics.BoolLaws.{cases}
use Rattle.interface.proofs.Basics.PutLaws.{put_same, put_other}
use Rattle.interface.proofs.Sound.Soundness.{sound_facts}
use Rattle.interface.proofs.Sound.SoundObjects.{free_there, used_below_free}
use Rattle.interface.proofs.Sound.SoundFacts.{home, ec_home, has_pd_lem}
use Rattle.interface.proofs.Tables.TurnLaws.{run_append}
use Rattle.interface.proofs.Tables.VerdictLaws.{after_verdict}
use Rattle.interface.proofs.Sound.CreationsFit.{stored, stored_words, Granted, steps_of, granted_so, Initial, no_initial, initial_gives_lem, pd_initial}
use Rattle.interface.proofs.Refusals.RefusalLaws.{by_rule}
use Rattle.interface.proofs.Refusals.CreationRefusals.{Grants, pd_grants, ec_grants, sc_grants, pt_grants, sm_grants}

-- a creation that is granted was checked, and leaves what its steps do
module _ (s : State) (c : Call) (new : Creation) (is : rules s c ≡ creation s c new) (grants : Grants s c) where
  steps_so : Granted s c new × (grant 0 (steps_of s c new) ≡ grant 0 grants.0)
  steps_so =
      granted_so (λ (verdict : Verdict). verdict ≡ grant 0 grants.0 → Granted s c new × (grant 0 (steps_of s c new) ≡ grant 0 grants.0)) s c new
      (λ reply e. let z : ◌≡◌ {A = ℕ} 0 1 = cc in absurd (omega arith)) (λ checks e. (checks, e)) (sym is ∙ grants.1)

  was_checked : Granted s c new
  was_checked = steps_so.0

  after_steps : after s c ≡ run (steps_of s c new) s
  after_steps = after_verdict s c (grant 0 (steps_of s c new)) (grants.1 ∙ sym steps_so.1)

  -- the state after it: the object is stored, then the delegations are made, then the new place is filled
  module _ (initial : Initial s c new) where
    last : State
    last = run new.delegations (stored s new.words)

    after_last : after s c ≡ act (hold (new_place s c) (free_record s)) last
    unfolding run act last
    after_last = after_steps ∙ run_append new.delegations (hold (new_place s c) (free_record s) ∷ []) (stored s new.words)

    after_objects : (after s c).objects ≡ (stored s new.words).objects
    unfolding act last
    after_objects = ap (λ (t : State). t.objects) after_last ∙ initial.steps.objects_stay

    after_words : (after s c).objects (free_record s) ≡ word new.words
    after_words = ap (λ (o : ℕ → ℕ → ℕ). o (free_record s)) after_objects ∙ stored_words s new.words

    after_others : (other : ℕ) → (other ≡ free_record s → ⊥) → (after s c).objects other ≡ s.objects other
    unfolding act
    after_others other n = ap (λ (o : ℕ → ℕ → ℕ). o other) after_objects ∙ put_other s.objects (free_record s) (word new.words) other n

    after_held : (after s c).caps (new_place s c) ≡ parentless (free_record s) (greatest_of (word new.words kind_word))
    unfolding act last
    after_held =
        let kind : kind_of last (free_record s) ≡ word new.words kind_word =
        ap (λ (o : ℕ → ℕ → ℕ). o (free_record s) kind_word) initial.steps.objects_stay ∙ ap (λ (w : ℕ → ℕ). w kind_word) (stored_words s new.words) in
        ap (λ (t : State). t.caps (new_place s c)) after_last ∙
        put_same last.caps (new_place s c) (parentless (free_record s) (greatest_of (kind_of last (free_record s)))) ∙
        ap (λ (k : ℕ). parentless (free_record s) (greatest_of k)) kind

    after_place : (place : ℕ) → (place ≡ new_place s c → ⊥) → (after s c).caps place ≡ last.caps place
    unfolding act last
    after_place place n =
        ap (λ (t : State). t.caps place) after_last ∙
        put_other last.caps (new_place s c) (parentless (free_record s) (greatest_of (kind_of last (free_record s)))) place n

    created_so : (kind : ℕ) → word new.words kind_word ≡ kind → length new.words ≤ named_words kind + 1 → Created s c kind (free_record s)
    created_so kind e short =
        record {
          is_record = was_checked.room;
          was_free = free_there s was_checked.room;
          none_lower = used_below_free s;
          of_kind = rw after_words e;
          others_zero = λ index l. rw after_words (get_or-eq_default new.words 0 (omega arith));
          records_stay = after_others;
          place_holds = rw e at after_held;
        }

-- what a creation that delegates nothing leaves
record Leaves (s : State) (c : Call) (kind : ℕ) (words : List ℕ) : Type 0 where
  created : Created s c kind (free_record s)
  told : (index : ℕ) → (after s c).objects (free_record s) index ≡ word words index
  stay : PlacesStay s c

plain_leaves : (s : State) (c : Call) (new : Creation) → rules s c ≡ creation s c new → Grants s c → new.delegations ≡ [] → (kind : ℕ) → word new.words kind_word ≡ kind →
    length new.words ≤ named_words kind + 1 → Leaves s c kind new.words
unfolding run act last
plain_leaves s c new is grants none kind e short =
    let initial = no_initial s c new none in
    record {
      created = created_so s c new is grants initial kind e short;
      told = λ index. ap (λ (w : ℕ → ℕ). w index) (after_words s c new is grants initial);
      stay = λ place n. after_place s c new is grants initial place n ∙ rw none;
    }

module _ (s : State) (c : Call) (sound : sound_state s ≡ true) (e : is_ec s c.caller ≡ true) where
  ec_leaves : c.number ≡ CREATE_EC → reply_of (rules s c) ≡ Ok 0 → (number : ℕ) × EcCreated s c number
  unfolding hypercall create_ec
  ec_leaves n g =
      let leaves = plain_leaves s c _ (by_rule s c CREATE_EC create_ec refl sound e n) (ec_grants s c sound e n g) refl EC refl (omega arith) in (
        free_record s,
        record {
          created = leaves.created;
          domain_told = leaves.told domain_word;
          cpu_told = leaves.told cpu_word;
          event_base_told = leaves.told event_base_word;
          places_stay = leaves.stay;
        },
      )

  sc_leaves : c.number ≡ CREATE_SC → reply_of (rules s c) ≡ Ok 0 → (number : ℕ) × ScCreated s c number
  unfolding hypercall create_sc
  sc_leaves n g =
      let leaves = plain_leaves s c _ (by_rule s c CREATE_SC create_sc refl sound e n) (sc_grants s c sound e n g) refl SC refl (omega arith) in (
        free_record s,
        record {
          created = leaves.created;
          ec_told = leaves.told ec_word;
          priority_told = leaves.told priority_word;
          quantum_told = leaves.told quantum_word;
          places_stay = leaves.stay;
        },
      )

  pt_leaves : c.number ≡ CREATE_PT → reply_of (rules s c) ≡ Ok 0 → (number : ℕ) × PtCreated s c number
  unfolding hypercall create_pt
  pt_leaves n g =
      let leaves = plain_leaves s c _ (by_rule s c CREATE_PT create_pt refl sound e n) (pt_grants s c sound e n g) refl PT refl (omega arith) in (
        free_record s,
        record {
          created = leaves.created;
          ec_told = leaves.told ec_word;
          mtd_told = leaves.told mtd_word;
          entry_told = leaves.told entry_word;
          identifier_told = leaves.told identifier_word;
          places_stay = leaves.stay;
        },
      )

  sm_leaves : c.number ≡ CREATE_SM → reply_of (rules s c) ≡ Ok 0 → (number : ℕ) × SmCreated s c number
  unfolding hypercall create_sm
  sm_leaves n g =
      let leaves = plain_leaves s c _ (by_rule s c CREATE_SM create_sm refl sound e n) (sm_grants s c sound e n g) refl SM refl (omega arith) in
      (free_record s, record { created = leaves.created; count_told = leaves.told count_word; places_stay = leaves.stay })

  -- what CREATE_PD leaves: its delegations go to the new domain, and change no other place
  module _ (new : Creation) (is : rules s c ≡ creation s c new) (grants : Grants s c) (words_so : new.words ≡ PD ∷ next_domain s ∷ [])
      (gives_so : new.delegations ≡ initial_gives (caller_domain s c) (next_domain s) (reading c.third)) (domain_so : new.domain_left ≡ ltb (next_domain s) domains)
      (parameters_so : new.parameters_good ≡ initial_good (reading c.third)) where
    domain_left : next_domain s < domains
    domain_left = ltb-true (next_domain s) domains (sym domain_so ∙ (was_checked s c new is grants).domain)

    initial_good_lem : initial_good (reading c.third) ≡ true
    initial_good_lem = sym parameters_so ∙ (was_checked s c new is grants).parameters

    initial : Initial s c new
    initial = pd_initial s c (sound_facts s sound) e new words_so gives_so domain_left initial_good_lem (was_checked s c new is grants).room

    pd_told : (index : ℕ) → (after s c).objects (free_record s) index ≡ word (PD ∷ next_domain s ∷ []) index
    pd_told index = ap (λ (w : ℕ → ℕ). w index) (after_words s c new is grants initial) ∙ ap (λ (words : List ℕ). word words index) words_so

    stored_pd : has_pd (stored s new.words) (next_domain s) ≡ true
    stored_pd =
        has_pd_lem (stored s new.words) (free_record s) (next_domain s) (was_checked s c new is grants).room (rw (kind_of, stored_words s new.words, words_so))
        (rw (stored_words s new.words, words_so))

    pd_places : (place : ℕ) → (place ≡ new_place s c → ⊥) → (domain_of place ≡ next_domain s → ⊥) → (after s c).caps place ≡ s.caps place
    unfolding act last
    pd_places place n apart =
        let here = home s (sound_facts s sound) (caller_domain s c) (ec_home s (sound_facts s sound) c.caller e) in
        after_place s c new is grants initial place n ∙
        (rw gives_so
        (initial_gives_lem (stored s new.words) (caller_domain s c) (next_domain s) place here.small domain_left stored_pd apart (reading c.third) (good_proper c.third)
        initial_good_lem).1)

    pd_leaves_so : PdCreated s c (free_record s)
    pd_leaves_so =
        record {
          created = created_so s c new is grants initial PD (rw words_so) (rw words_so (omega arith));
          domain_told = pd_told domain_word;
          had_no_pd =
              cases (has_pd s (next_domain s)) (λ (t : has_pd s (next_domain s) ≡ true). absurd (omega (arith, (home s (sound_facts s sound) (next_domain s) t).taken)))
              (λ (f : has_pd s (next_domain s) ≡ false). f);
          has_pd_now = has_pd_lem (after s c) (free_record s) (next_domain s) (was_checked s c new is grants).room (pd_told kind_word) (pd_told domain_word);
          places_stay = pd_places;
        }

  pd_leaves : c.number ≡ CREATE_PD → reply_of (rules s c) ≡ Ok 0 → (number : ℕ) × PdCreated s c number
  unfolding hypercall create_pd
  pd_leaves n g = (free_record s, pd_leaves_so _ (by_rule s c CREATE_PD create_pd refl sound e n) (pd_grants s c sound e n g) refl refl refl refl)

pub created_exactly : CreatedExactly
created_exactly = record { pd_created = pd_leaves; ec_created = ec_leaves; sc_created = sc_leaves; pt_created = pt_leaves; sm_created = sm_leaves }
