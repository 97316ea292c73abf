-- Each refusal of a call has exactly its cause: the checks of each call's rule as facts.
use Rattle.std.specs.Prelude.{Err, Ok}
use Prim.Native.Nat.{ℕ}
use mathlib.Core.Path.{◌≡◌, refl, sym, ap, ◌∙◌}
use mathlib.Core.Logic.{◌↔◌}
use mathlib.Core.Bool.{true, ◌&&◌}
use mathlib.Core.List.{List, [], ◌∷◌}
use lib.Dec.{eqb}
use lib.ListN.{length}
use borrow.Author.Tests.{ltb-true, eqb-true, eq-eqb}
use Rattle.words.specs.Fields.{bits}
use Rattle.words.specs.Sizes.{block_words}
use Rattle.words.specs.Permissions.{permits}
use Rattle.reply.specs.Replies.{status_of, Reply}
use Rattle.reply.specs.declared.Refusal.TheVariants.{ComTim, BadCap, BadPar, BadCpu}
use Rattle.interface.specs.Basics.{any, member}
use Rattle.interface.specs.Places.{State, PT, domain_word, cpu_word, call_bit, kind_of, object_place, permitted, object_in}
use Rattle.interface.specs.Damage.{sound_state, is_ec}
use Rattle.interface.specs.Verdicts.{Call, CALL, caller_domain, Verdict, deliver, reply_of}
use Rattle.interface.specs.Message.{payload_words, payload_fits, Moved, transfer}
use Rattle.interface.specs.PortalCalls.{portal_call}
use Rattle.interface.specs.Rules.{rule, hypercall, called, rules}
use Rattle.interface.specs.Refusals.{Holds, WholeBlocks, callee_of, payload_asked, CallRefusedExactly}
use Rattle.interface.proofs.Basics.BoolLaws.{and_left, and_right, both}
use Rattle.interface.proofs.Sound.Soundness.{Sound, sound_facts}
use Rattle.interface.proofs.Sound.SoundFacts.{permits_live, permitted_kind, own_record}
use Rattle.interface.proofs.Refusals.ChecksInTurn.{Decides, decides_at_most, decides_equal, decides_other, decides_fact, IsRefusal, success_no_refusal, Check, in_turn, Cause, Passed, checked, caused_exactly, each_passed, each_passes, all_among, status_among, verdict_in_turn, reply_in_turn, last_stands}

-- a call of a number by an EC on a sound state is judged by the number's rule
pub by_rule : (s : State) (c : Call) (number : ℕ) (verdict : State → Call → Verdict) → hypercall number ≡ rule verdict → sound_state s ≡ true → is_ec s c.caller ≡ true →
    c.number ≡ number → rules s c ≡ verdict s c
unfolding rules called
by_rule s c number verdict e sound ec n =
    let is_rule : hypercall c.number ≡ rule verdict = ap hypercall n ∙ e in
    rw (sound, is_rule, ec)

-- a call's verdict that is its checks' in turn, and then one that succeeds
module _ (s : State) (c : Call) (checks : List Check) (last : Verdict) (answer : ℕ) (succeeds : reply_of last ≡ Ok answer)
    (is : rules s c ≡ verdict_in_turn checks last) where
  reply_is : reply_of (rules s c) ≡ in_turn checks (Ok answer)
  reply_is = ap reply_of is ∙ reply_in_turn checks last ∙ ap (in_turn checks) succeeds

  -- it refuses exactly where the refusal has a cause
  pub refused_exactly : (refusal : Reply) → IsRefusal refusal → (reply_of (rules s c) ≡ refusal) ↔ Cause checks refusal
  refused_exactly refusal r =
      rw reply_is (caused_exactly (Ok answer) refusal (λ e. success_no_refusal refusal answer r (sym e)) r checks)

  -- it grants exactly where each check is passed
  pub granted_exactly : (reply_of (rules s c) ≡ Ok answer) ↔ Passed checks
  granted_exactly =
      rw reply_is (
        λ e. (each_passed (λ (reply : Reply). reply ≡ Ok answer) (λ reply r p. success_no_refusal reply answer r p) (Ok answer) checks e).0,
        λ f. each_passes (λ (reply : Reply). reply ≡ Ok answer) (λ reply r p. success_no_refusal reply answer r p) (Ok answer) checks f refl,
      )

  -- with this answer and no other
  pub granted_somehow : ((given : ℕ) × (reply_of (rules s c) ≡ Ok given)) ↔ Passed checks
  granted_somehow = (
    λ (given, e).
        (each_passed (λ (reply : Reply). reply ≡ Ok given) (λ reply r p. success_no_refusal reply given r p) (Ok answer) checks (rw reply_is at e)).0,
    λ f. (answer, granted_exactly.1 f),
  )

  -- and then by this verdict
  pub passed_grants : reply_of (rules s c) ≡ Ok answer → rules s c ≡ last
  passed_grants e = is ∙ last_stands checks last (granted_exactly.0 e)

  -- its status is a check's, or SUCCESS
  pub no_other : (statuses : List ℕ) → member 0 statuses ≡ true → all_among statuses checks ≡ true → member (status_of (reply_of (rules s c))) statuses ≡ true
  no_other statuses h all = rw reply_is (status_among statuses (Ok answer) h checks all)

-- the test of a permission at a place of an EC's own domain decides whether the place holds such a capability
module _ (s : State) (k : Sound s) (caller : ℕ) (e : is_ec s caller ≡ true) (selector kind bit : ℕ) where
  pub decides_holding : let place = object_place (s.objects caller domain_word) selector in
      Decides (permitted s place kind bit) (Holds s place kind bit) (Holds s place kind bit → ⊥)
  decides_holding =
      let place = object_place (s.objects caller domain_word) selector in
      let permissions = (s.caps place).permissions in
      let has_bit = permits bit permissions in
      let of_kind = eqb (kind_of s (object_in s place)) kind in
      decides_fact (permitted s place kind bit)
      (λ h.
      record {
        is_live = ltb-true 0 permissions (permits_live bit (s.caps place) (and_left has_bit of_kind h));
        is_record = own_record s k caller selector kind bit e h;
        of_kind = permitted_kind s place kind bit h;
        has_bit = eqb-true (bits bit bit permissions) 1 (and_left has_bit of_kind h);
      })
      (λ holds. both has_bit of_kind (eq-eqb (bits bit bit permissions) 1 holds.has_bit) (eq-eqb (kind_of s (object_in s place)) kind holds.of_kind))

-- CALL.
decides_whole : (c : Call) →
    Decides (eqb (length c.source) block_words && eqb (length c.target) block_words) (WholeBlocks c) (WholeBlocks c → ⊥)
decides_whole c =
    let source_whole = eqb (length c.source) block_words in
    let target_whole = eqb (length c.target) block_words in
    decides_fact (source_whole && target_whole)
    (λ h.
    record {
      source_whole = eqb-true (length c.source) block_words (and_left source_whole target_whole h);
      target_whole = eqb-true (length c.target) block_words (and_right source_whole target_whole h);
    })
    (λ whole.
    both source_whole target_whole (eq-eqb (length c.source) block_words whole.source_whole) (eq-eqb (length c.target) block_words whole.target_whole))

module _ (s : State) (c : Call) (sound : sound_state s ≡ true) (e : is_ec s c.caller ≡ true) where
  abbrev call_checks : List Check
  call_checks =
      checked (decides_whole c) BadPar refl ∷
      checked (decides_holding s (sound_facts s sound) c.caller e c.first PT call_bit) BadCap refl ∷
      checked (decides_other (callee_of s c) c.caller) ComTim refl ∷
      checked (decides_equal (s.objects (callee_of s c) cpu_word) (s.objects c.caller cpu_word)) BadCpu refl ∷
      checked (decides_at_most (payload_asked c) payload_words) BadPar refl ∷ []

  call_moved : Moved
  call_moved = transfer s (caller_domain s c) (s.objects (callee_of s c) domain_word) c.source c.target

  abbrev call_last : Verdict
  call_last = deliver call_moved.filled call_moved.effects call_moved.block

  module _ (n : c.number ≡ CALL) where
    call_checked : rules s c ≡ verdict_in_turn call_checks call_last
    unfolding hypercall portal_call payload_fits call_moved
    call_checked = by_rule s c CALL portal_call refl sound e n

    call_refused : (refusal : Reply) → IsRefusal refusal → (reply_of (rules s c) ≡ refusal) ↔ Cause call_checks refusal
    call_refused = refused_exactly s c call_checks call_last call_moved.filled refl call_checked

    call_passed : ((given : ℕ) × (reply_of (rules s c) ≡ Ok given)) ↔ Passed call_checks
    call_passed = granted_somehow s c call_checks call_last call_moved.filled refl call_checked

    call_status : member (status_of (reply_of (rules s c))) (0 ∷ 1 ∷ 4 ∷ 5 ∷ 7 ∷ []) ≡ true
    unfolding member any
    call_status = no_other s c call_checks call_last call_moved.filled refl call_checked (0 ∷ 1 ∷ 4 ∷ 5 ∷ 7 ∷ []) refl refl

pub call_refused_exactly : CallRefusedExactly
call_refused_exactly =
    record {
      call_bad_par = λ s c sound e n. call_refused s c sound e n (Err BadPar) refl;
      call_bad_cap = λ s c sound e n. call_refused s c sound e n (Err BadCap) refl;
      call_com_tim = λ s c sound e n. call_refused s c sound e n (Err ComTim) refl;
      call_bad_cpu = λ s c sound e n. call_refused s c sound e n (Err BadCpu) refl;
      call_granted = call_passed;
      call_no_other = call_status;
    }
