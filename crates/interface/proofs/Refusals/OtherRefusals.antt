-- Each refusal of SM_CTRL, LOOKUP, REVOKE and the census has exactly its cause.
use Prim.Native.Nat.{ℕ, ◌+◌, ◌-◌, ◌≤◌, ◌<◌}
use mathlib.Core.Path.{◌≡◌, refl, sym, ap, ◌∙◌}
use mathlib.Core.Logic.{◌↔◌, ◌⊎◌, ⊎_map}
use mathlib.Core.Bool.{Bool, true, false, not, cond, false≢true}
use mathlib.Core.List.{List, [], ◌∷◌}
use native.Mathlib.Omega.{arith}
use lib.Dec.{eqb, leb, ltb}
use lib.ListN.{length}
use borrow.Author.Tests.{ltb-true, ltb-false, lt-leb, eqb-true, eqb-false, not-false}
use Rattle.words.specs.Fields.{greatest_word}
use Rattle.words.specs.Sizes.{places}
use Rattle.reply.specs.Replies.{status_of, answer_of, Reply}
use Rattle.descriptor.specs.declared.Reading.{Reading}
use Rattle.descriptor.specs.declared.Reading.TheVariants.{Null, Malformed, Good}
use Rattle.reply.specs.declared.Refusal.TheVariants.{ComTim, BadCap, BadPar, NoRoom, Short}
use Rattle.std.specs.Prelude.{if◌then◌else◌, Ok, Err}
use Rattle.interface.specs.Basics.{put, put_from, any, member}
use Rattle.interface.specs.Places.{State, Tables, live, shown, SM, count_word, object_in}
use Rattle.interface.specs.Damage.{sound_state, sound, is_ec}
use Rattle.interface.specs.RangeDescriptors.{reading, malformed}
use Rattle.interface.specs.Effects.{Effect, count, act, run}
use Rattle.interface.specs.Verdicts.{Call, REVOKE, LOOKUP, SM_CTRL, caller_domain, Verdict, grant, reply_of}
use Rattle.interface.specs.Revoke.{mask_is_outside, cuts, revoke}
use Rattle.interface.specs.Lookup.{found, lookup}
use Rattle.interface.specs.Semaphores.{sm_ctrl}
use Rattle.interface.specs.Rules.{hypercall, rules}
use Rattle.interface.specs.Census.{CensusResult, descendants, counted, census_of}
use Rattle.interface.specs.Refusals.{named_place, semaphore_count, CountBecomes, SmCtrlRefusedExactly, LookupRefusedExactly, MaskOutside, RevokeRefusedExactly, CensusRefusedExactly}
use Rattle.interface.proofs.Basics.BoolLaws.{cases, either_way}
use Rattle.interface.proofs.Basics.PutLaws.{put_same, put_other}
use Rattle.interface.proofs.Sound.Soundness.{sound_facts}
use Rattle.interface.proofs.Tables.VerdictLaws.{after_verdict}
use Rattle.interface.proofs.Refusals.ChecksInTurn.{Decides, decides_at_most, decides_below, decides_some, decides_inside, decides_contrary, decides_not, IsRefusal, success_no_refusal, Check, checked, in_turn, Cause, Passed, neither_reply, caused_exactly, each_passed, each_passes, status_among, verdict_in_turn, last_stands}
use Rattle.interface.proofs.Refusals.MaskRefusals.{outside_fields, fields_outside}
use Rattle.interface.proofs.Refusals.RefusalLaws.{by_rule, refused_exactly, granted_exactly, granted_somehow, no_other, decides_holding, passed_grants}

-- SM_CTRL.
module _ (s : State) (c : Call) (sound : sound_state s ≡ true) (e : is_ec s c.caller ≡ true) (n : c.number ≡ SM_CTRL) where
  abbrev counts : ℕ → Verdict
  counts value = grant 0 (count (object_in s (named_place s c)) value ∷ [])

  beyond : 1 < c.second → reply_of (rules s c) ≡ Err BadPar
  unfolding hypercall sm_ctrl
  beyond l = rw (by_rule s c SM_CTRL sm_ctrl refl sound e n, lt-leb c.second 1 l)

  abbrev up_checks : List Check
  up_checks =
      checked (decides_holding s (sound_facts s sound) c.caller e c.first SM 0) BadCap refl ∷
      checked (decides_below (semaphore_count s c) greatest_word) BadPar refl ∷ []

  up_checked : c.second ≡ 0 → rules s c ≡ verdict_in_turn up_checks (counts (semaphore_count s c + 1))
  unfolding hypercall sm_ctrl
  up_checked z = by_rule s c SM_CTRL sm_ctrl refl sound e n ∙ rw z

  abbrev down_checks : List Check
  down_checks =
      checked (decides_holding s (sound_facts s sound) c.caller e c.first SM 1) BadCap refl ∷
      checked (decides_some (semaphore_count s c)) ComTim refl ∷ []

  down_checked : c.second ≡ 1 → rules s c ≡ verdict_in_turn down_checks (counts (semaphore_count s c - 1))
  unfolding hypercall sm_ctrl
  down_checked z = by_rule s c SM_CTRL sm_ctrl refl sound e n ∙ rw z

  -- a step that stores a count
  count_becomes : (value : ℕ) → rules s c ≡ counts value → CountBecomes s c value
  unfolding run act put_from
  count_becomes value granted =
      let number = object_in s (named_place s c) in
      let stored = put (s.objects number) count_word value in
      let is = after_verdict s c (counts value) granted in
      record {
        count_stored = rw (is, put_same s.objects number stored) (put_same (s.objects number) count_word value);
        other_words_stay =
            λ other index apart.
            rw is
            (cases (eqb other number)
            (λ (t : eqb other number ≡ true).
            let same : other ≡ number = eqb-true other number t in
            rw (same, put_same s.objects number stored) (put_other (s.objects number) count_word value index (λ i. apart (same, i))))
            (λ (f : eqb other number ≡ false). rw (put_other s.objects number stored other (eqb-false other number f))));
        places_stay = rw is;
      }

  up_refused : c.second ≡ 0 → (refusal : Reply) → IsRefusal refusal → (reply_of (rules s c) ≡ refusal) ↔ Cause up_checks refusal
  up_refused z = refused_exactly s c up_checks _ 0 refl (up_checked z)

  up_passed : c.second ≡ 0 → (reply_of (rules s c) ≡ Ok 0) ↔ Passed up_checks
  up_passed z = granted_exactly s c up_checks _ 0 refl (up_checked z)

  up_becomes : c.second ≡ 0 → reply_of (rules s c) ≡ Ok 0 → CountBecomes s c (semaphore_count s c + 1)
  up_becomes z g = count_becomes (semaphore_count s c + 1) (passed_grants s c up_checks _ 0 refl (up_checked z) g)

  up_status : c.second ≡ 0 → member (status_of (reply_of (rules s c))) (0 ∷ 4 ∷ 5 ∷ []) ≡ true
  unfolding member any
  up_status z = no_other s c up_checks _ 0 refl (up_checked z) (0 ∷ 4 ∷ 5 ∷ []) refl refl

  down_refused : c.second ≡ 1 → (refusal : Reply) → IsRefusal refusal → (reply_of (rules s c) ≡ refusal) ↔ Cause down_checks refusal
  down_refused z = refused_exactly s c down_checks _ 0 refl (down_checked z)

  down_passed : c.second ≡ 1 → (reply_of (rules s c) ≡ Ok 0) ↔ Passed down_checks
  down_passed z = granted_exactly s c down_checks _ 0 refl (down_checked z)

  down_becomes : c.second ≡ 1 → reply_of (rules s c) ≡ Ok 0 → CountBecomes s c (semaphore_count s c - 1)
  down_becomes z g = count_becomes (semaphore_count s c - 1) (passed_grants s c down_checks _ 0 refl (down_checked z) g)

  down_status : c.second ≡ 1 → member (status_of (reply_of (rules s c))) (0 ∷ 1 ∷ 4 ∷ []) ≡ true
  unfolding member any
  down_status z = no_other s c down_checks _ 0 refl (down_checked z) (0 ∷ 1 ∷ 4 ∷ []) refl refl

pub sm_ctrl_refused_exactly : SmCtrlRefusedExactly
sm_ctrl_refused_exactly =
    record {
      other_bad_par = beyond;
      up_bad_cap = λ s c sound e n z. up_refused s c sound e n z (Err BadCap) refl;
      up_bad_par = λ s c sound e n z. up_refused s c sound e n z (Err BadPar) refl;
      up_granted = up_passed;
      up_counts = up_becomes;
      up_no_other = up_status;
      down_bad_cap = λ s c sound e n z. down_refused s c sound e n z (Err BadCap) refl;
      down_com_tim = λ s c sound e n z. down_refused s c sound e n z (Err ComTim) refl;
      down_granted = down_passed;
      down_counts = down_becomes;
      down_no_other = down_status;
    }

-- LOOKUP and REVOKE.
read_malformed : (read : Reading) → malformed read ≡ true → read ≡ Malformed
read_malformed Null h = absurd (false≢true h)
read_malformed Malformed h = refl
read_malformed (Good range) h = absurd (false≢true h)

decides_malformed : (read : Reading) → Decides (not (malformed read)) (read ≡ Malformed → ⊥) (read ≡ Malformed)
decides_malformed read = decides_contrary (not (malformed read)) (λ h. read_malformed read (not-false (malformed read) h)) (λ h. rw h)

module _ (s : State) (c : Call) (sound : sound_state s ≡ true) (e : is_ec s c.caller ≡ true) where
  abbrev lookup_checks : List Check
  lookup_checks = checked (decides_malformed (reading c.first)) BadPar refl ∷ []

  module _ (n : c.number ≡ LOOKUP) where
    lookup_checked : rules s c ≡ verdict_in_turn lookup_checks (grant (found s (caller_domain s c) (reading c.first)) [])
    unfolding hypercall lookup
    lookup_checked = by_rule s c LOOKUP lookup refl sound e n

    lookup_refused : (refusal : Reply) → IsRefusal refusal → (reply_of (rules s c) ≡ refusal) ↔ Cause lookup_checks refusal
    lookup_refused = refused_exactly s c lookup_checks _ _ refl lookup_checked

    lookup_passed : ((answer : ℕ) × (rules s c ≡ grant answer [])) ↔ Passed lookup_checks
    lookup_passed = (
      λ (answer, g). (granted_somehow s c lookup_checks _ _ refl lookup_checked).0 (answer, ap reply_of g),
      λ f. (_, lookup_checked ∙ last_stands lookup_checks _ f),
    )

    lookup_status : member (status_of (reply_of (rules s c))) (0 ∷ 5 ∷ []) ≡ true
    unfolding member any
    lookup_status = no_other s c lookup_checks _ _ refl lookup_checked (0 ∷ 5 ∷ []) refl refl

  abbrev revoke_checks : List Check
  revoke_checks =
      checked (decides_at_most c.second 1) BadPar refl ∷
      checked (decides_malformed (reading c.first)) BadPar refl ∷
      checked (decides_not (mask_is_outside (reading c.first))) BadPar refl ∷ []

  -- the cause of a refusal, with the check of the mask in the word's fields
  abbrev RevokeCause : Type 0
  RevokeCause = (1 < c.second) ⊎ ((c.second ≤ 1) × ((reading c.first ≡ Malformed) ⊎ ((reading c.first ≡ Malformed → ⊥) × MaskOutside c.first)))

  in_fields : Cause revoke_checks (Err BadPar) ↔ RevokeCause
  in_fields = (
    ⊎_map (λ l. l) (λ x. (x.0, ⊎_map (λ m. m) (λ y. (y.0, outside_fields c.first y.0 y.1)) x.1)),
    ⊎_map (λ l. l) (λ x. (x.0, ⊎_map (λ m. m) (λ y. (y.0, fields_outside c.first y.0 y.1)) x.1)),
  )

  module _ (n : c.number ≡ REVOKE) where
    revoke_checked : rules s c ≡ verdict_in_turn revoke_checks (grant 0 (cuts (caller_domain s c) (eqb c.second 1) (reading c.first)))
    unfolding hypercall revoke
    revoke_checked = by_rule s c REVOKE revoke refl sound e n

    revoke_refused : (reply_of (rules s c) ≡ Err BadPar) ↔ RevokeCause
    revoke_refused =
        let exactly = refused_exactly s c revoke_checks _ 0 refl revoke_checked (Err BadPar) refl in
        (λ e. in_fields.0 (exactly.0 e), λ x. exactly.1 (in_fields.1 x))

    revoke_passed : ((effects : List Effect) × (rules s c ≡ grant 0 effects)) ↔
        ((c.second ≤ 1) × ((reading c.first ≡ Malformed → ⊥) × (MaskOutside c.first → ⊥)))
    revoke_passed = (
      λ (effects, g).
          let (small, (formed, inside)) = (granted_exactly s c revoke_checks _ 0 refl revoke_checked).0 (ap reply_of g) in
          (small, (formed, λ outside. inside (fields_outside c.first formed outside))),
      λ (small, (formed, inside)).
          (_, revoke_checked ∙ last_stands revoke_checks _ (small, (formed, λ outside. inside (outside_fields c.first formed outside)))),
    )

    revoke_status : member (status_of (reply_of (rules s c))) (0 ∷ 5 ∷ []) ≡ true
    unfolding member any
    revoke_status = no_other s c revoke_checks _ 0 refl revoke_checked (0 ∷ 5 ∷ []) refl refl

pub lookup_refused_exactly : LookupRefusedExactly
lookup_refused_exactly =
    record {
      lookup_bad_par = λ s c sound e n. lookup_refused s c sound e n (Err BadPar) refl;
      lookup_granted = lookup_passed;
      lookup_no_other = lookup_status;
    }

pub revoke_refused_exactly : RevokeRefusedExactly
revoke_refused_exactly =
    record {
      revoke_bad_par = revoke_refused;
      revoke_granted = revoke_passed;
      revoke_no_other = revoke_status;
    }

-- The census.

-- the reply of one of four outcomes is one of their replies
outcome_reply : (a b d : Bool) (w x y z : CensusResult) →
    (if a then w else if b then (if d then x else y) else z).reply ≡ cond (not a) (cond b (cond d x.reply y.reply) z.reply) w.reply
outcome_reply true b d w x y z = refl
outcome_reply false true true w x y z = refl
outcome_reply false true false w x y z = refl
outcome_reply false false d w x y z = refl

-- SHORT is no refusal of a check
short_no_refusal : (reply : Reply) (needed : ℕ) → IsRefusal reply → reply ≡ Err (Short needed) → ⊥
short_no_refusal reply needed r e =
    let z : status_of reply ≡ 19 = ap status_of e in
    let n : Err NoRoom ≡ reply = rw z at r in
    omega (arith, ap status_of n)

-- what a list that is too short or not gets
module _ (size found needed : ℕ) where
  short_told : (cond (ltb size found) (Err (Short found)) (Ok found) ≡ Err (Short needed)) ↔ ((size < found) × (found ≡ needed))
  short_told =
      cases (ltb size found)
      (λ (t : ltb size found ≡ true). rw t (λ e. (ltb-true size found t, ap answer_of e), λ x. ap (λ needed. Err (Short needed)) x.1))
      (λ (f : ltb size found ≡ false). rw f (λ e. absurd (omega (arith, ap status_of e)), λ x. absurd (omega (arith, ltb-false size found f))))

  success_told : (cond (ltb size found) (Err (Short found)) (Ok found) ≡ Ok needed) ↔ ((found ≤ size) × (found ≡ needed))
  success_told =
      cases (ltb size found)
      (λ (t : ltb size found ≡ true). rw t (λ e. absurd (omega (arith, ap status_of e)), λ x. absurd (omega (arith, ltb-true size found t))))
      (λ (f : ltb size found ≡ false). rw f (λ e. (ltb-false size found f, ap answer_of e), λ x. ap Ok x.1))

module _ (tables : Tables) (place : ℕ) (list : List ℕ) (good : sound tables ≡ true) where
  abbrev census_checks : List Check
  census_checks =
      checked (decides_inside place places) BadPar refl ∷ checked (decides_some ((shown tables).caps place).permissions) BadCap refl ∷ []

  abbrev heir_count : ℕ
  heir_count = length (descendants (shown tables).caps place)

  abbrev census_last : Reply
  census_last = cond (ltb (length list) heir_count) (Err (Short heir_count)) (Ok heir_count)

  census_reply : (census_of tables place list).reply ≡ in_turn census_checks census_last
  unfolding counted census_of
  census_reply = rw good (outcome_reply (leb places place) (live ((shown tables).caps place)) (ltb (length list) heir_count) _ _ _ _)

  census_refused : (refusal : Reply) → IsRefusal refusal → ((census_of tables place list).reply ≡ refusal) ↔ Cause census_checks refusal
  census_refused refusal r =
      rw census_reply
      (caused_exactly census_last refusal
      (neither_reply (ltb (length list) heir_count) (Err (Short heir_count)) (Ok heir_count) refusal (λ e. short_no_refusal refusal heir_count r (sym e))
      (λ e. success_no_refusal refusal heir_count r (sym e))) r census_checks)

  census_told : (P : Reply → Type 0) → ((reply : Reply) → IsRefusal reply → P reply → ⊥) → P (census_of tables place list).reply ↔ (Passed census_checks × P census_last)
  census_told P none =
      rw census_reply (each_passed P none census_last census_checks, λ x. each_passes P none census_last census_checks x.0 x.1)

  census_status : member (status_of (census_of tables place list).reply) (0 ∷ 4 ∷ 5 ∷ 19 ∷ []) ≡ true
  unfolding member any
  census_status =
      rw census_reply
      (status_among (0 ∷ 4 ∷ 5 ∷ 19 ∷ []) census_last
      (either_way (λ (reply : Reply). member (status_of reply) (0 ∷ 4 ∷ 5 ∷ 19 ∷ []) ≡ true) (ltb (length list) heir_count) (Err (Short heir_count)) (Ok heir_count) refl refl)
      census_checks refl)

  census_tells : (P : Reply → Type 0) (Told : Type 0) → ((reply : Reply) → IsRefusal reply → P reply → ⊥) → P census_last ↔ Told →
      P (census_of tables place list).reply ↔ ((place < places) × ((0 < ((shown tables).caps place).permissions) × Told))
  census_tells P Told none told =
      let exactly = census_told P none in (
        λ e. let x = exactly.0 e in (x.0.0, (x.0.1, told.0 x.1)),
        λ x. exactly.1 ((x.0, x.1.0), told.1 x.1.1),
      )

pub census_refused_exactly : CensusRefusedExactly
census_refused_exactly =
    record {
      census_bad_par = λ tables place list good. census_refused tables place list good (Err BadPar) refl;
      census_bad_cap = λ tables place list good. census_refused tables place list good (Err BadCap) refl;
      census_short =
          λ tables place list good needed.
          census_tells tables place list good (λ (reply : Reply). reply ≡ Err (Short needed)) _ (λ reply. short_no_refusal reply needed)
          (short_told (length list) (heir_count tables place list good) needed);
      census_success =
          λ tables place list good needed.
          census_tells tables place list good (λ (reply : Reply). reply ≡ Ok needed) _ (λ reply. success_no_refusal reply needed)
          (success_told (length list) (heir_count tables place list good) needed);
      census_no_other = census_status;
    }
