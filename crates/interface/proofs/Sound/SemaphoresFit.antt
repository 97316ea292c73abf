-- SM_CTRL's step fits: the record whose count it stores is a semaphore's.
use Prim.Native.Nat.{ℕ, ◌<◌}
use mathlib.Core.Path.{◌≡◌, ap, ◌∙◌}
use mathlib.Core.Bool.{true, false, ◌||◌}
use mathlib.Core.List.{[], ◌∷◌}
use native.Mathlib.Omega.{arith}
use lib.Dec.{eqb, leb}
use borrow.Author.Tests.{eqb-true, eqb-false, le-leb}
use Rattle.reply.specs.declared.Refusal.{Refusal}
use Rattle.words.specs.Sizes.{records, record_words}
use Rattle.reply.specs.Replies.{Reply}
use Rattle.interface.specs.Basics.{put, put_from}
use Rattle.interface.specs.Places.{State, SM, kind_word, count_word, named_words, kind_of, object_place, permitted, object_in}
use Rattle.interface.specs.Damage.{unnamed_rule, is_ec, ec_rule, sc_rule, pt_rule}
use Rattle.interface.specs.Effects.{count, act}
use Rattle.interface.specs.Verdicts.{Call, Verdict, refuse, grant, effects_of, caller_domain}
use Rattle.interface.specs.Semaphores.{sm_ctrl}
use Rattle.interface.proofs.Basics.BoolLaws.{cases, either_way, or_left}
use Rattle.interface.proofs.Basics.BelowLaws.{all_below_at, all_below_lem}
use Rattle.interface.proofs.Basics.PutLaws.{put_same, put_other}
use Rattle.interface.proofs.Sound.Soundness.{Sound}
use Rattle.interface.proofs.Tables.Steps.{StoreFits, FitInTurn}
use Rattle.interface.proofs.Sound.SoundObjects.{never_fixed}
use Rattle.interface.proofs.Tables.TurnLaws.{require_so}
use Rattle.interface.proofs.Sound.SoundFacts.{own_record, permitted_kind}

module _ (s : State) (number value : ℕ) where
  -- the words of a semaphore other than its count stay, and so its kind
  word_stays : (i : ℕ) → (i ≡ count_word → ⊥) → (act (count number value) s).objects number i ≡ s.objects number i
  unfolding act put_from
  word_stays i apart =
      ap (λ (w : ℕ → ℕ). w i) (put_same s.objects number (put (s.objects number) count_word value)) ∙
      put_other (s.objects number) count_word value i apart

  -- so a semaphore's count may be stored
  count_fits : Sound s → number < records → kind_of s number ≡ SM → StoreFits s number count_word (value ∷ [])
  unfolding unnamed_rule ec_rule sc_rule pt_rule
  count_fits k l is_sm =
      let t = act (count number value) s in
      let stays_sm : kind_of t number ≡ SM = word_stays kind_word (omega arith) ∙ is_sm in
      let zeros = all_below_at record_words (λ i. leb i (named_words SM) || eqb (s.objects number i) 0) (rw is_sm at (k.unnameds number l)) in
      record {
        is_record = l;
        used = λ e. omega (arith, is_sm);
        no_pd = λ e. omega (arith, is_sm);
        past_kind = omega arith;
        ends_inside = omega arith;
        keeps_fixed = never_fixed s k t number (omega (arith, is_sm));
        keeps_unnamed =
            rw stays_sm
            (all_below_lem record_words (λ i. leb i (named_words SM) || eqb (t.objects number i) 0)
            (λ i b.
            cases (eqb i count_word)
            (λ (e : eqb i count_word ≡ true).
            or_left (leb i (named_words SM)) (eqb (t.objects number i) 0) (le-leb i (named_words SM) (omega (arith, eqb-true i count_word e))))
            (λ (e : eqb i count_word ≡ false). rw (word_stays i (eqb-false i count_word e)) (zeros i b))));
        keeps_ec = rw stays_sm;
        keeps_sc = rw stays_sm;
        keeps_pt = rw stays_sm;
      }

-- what holds of every refusal, and of a step that stores a count once the semaphore is permitted, holds of SM_CTRL
pub semaphore_so : (P : Verdict → Type 0) (s : State) (c : Call) → ((refusal : Refusal) → P (refuse refusal)) →
    let place = object_place (caller_domain s c) c.first in
    (permitted s place SM c.second ≡ true → (value : ℕ) → P (grant 0 (count (object_in s place) value ∷ []))) → P (sm_ctrl s c)
unfolding sm_ctrl
semaphore_so P s c refused f = search (require_so P, either_way P, refused, f) depth 20

-- a permitted place of the caller's domain names the semaphore
pub semaphore_fits : (s : State) (c : Call) → Sound s → is_ec s c.caller ≡ true → FitInTurn (effects_of (sm_ctrl s c)) s
semaphore_fits s c k e =
    let place = object_place (caller_domain s c) c.first in
    semaphore_so (λ (verdict : Verdict). FitInTurn (effects_of verdict) s) s c (λ reply. tt)
    (λ p value. (
      count_fits s (object_in s place) value k (own_record s k c.caller c.first SM c.second e p) (permitted_kind s place SM c.second p),
      tt,
    ))
