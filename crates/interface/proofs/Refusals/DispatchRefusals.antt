-- BAD_HYP and BAD_CALLER are answered exactly for their causes: no rule of a call answers either.
use Prim.Native.Nat.{ℕ}
use mathlib.Core.Path.{◌≡◌, refl, sym, ap, ◌∙◌}
use mathlib.Core.Logic.{◌↔◌}
use mathlib.Core.Bool.{Bool, true, false, ◌||◌, true≢false, false≢true}
use mathlib.Core.List.{List}
use native.Mathlib.Omega.{arith}
use lib.Dec.{eqb}
use Rattle.reply.specs.declared.Refusal.{Refusal}
use Rattle.reply.specs.Replies.{status_of, Reply}
use Rattle.reply.specs.declared.Refusal.TheVariants.{BadHyp, BadCaller}
use Rattle.std.specs.Prelude.{if◌then◌else◌, Err}
use Rattle.interface.specs.Basics.{any, member}
use Rattle.interface.specs.Places.{State}
use Rattle.interface.specs.Damage.{sound_state, is_ec}
use Rattle.interface.specs.Effects.{Effect}
use Rattle.interface.specs.Verdicts.{Call, Verdict, refuse, grant, deliver, reply_of}
use Rattle.interface.specs.Creations.{creation, create_pd, create_ec, create_sc, create_pt, create_sm}
use Rattle.interface.specs.Revoke.{revoke}
use Rattle.interface.specs.Lookup.{lookup}
use Rattle.interface.specs.Semaphores.{sm_ctrl}
use Rattle.interface.specs.PortalCalls.{portal_call}
use Rattle.interface.specs.Rules.{Built, rule, not_built, hypercall, called, rules}
use Rattle.interface.specs.Refusals.{built_numbers, NamesEc, DispatchRefusedExactly}
use Rattle.interface.proofs.Basics.BoolLaws.{cases, not_both, either_way}
use Rattle.interface.proofs.Sound.SoundFacts.{ec_small, ec_kind, is_ec_lem}

-- a verdict whose reply is neither BAD_HYP nor BAD_CALLER: a refusal with another reply, a grant, a delivery, and a choice between two such
abbrev is_outer : Reply → Bool
is_outer reply = eqb (status_of reply) (status_of (Err BadHyp)) || eqb (status_of reply) (status_of (Err BadCaller))

record OwnReply (v : Verdict) : Type 0 where
  own : is_outer (reply_of v) ≡ false

own_refusal : (refusal : Refusal) → is_outer (Err refusal) ≡ false → OwnReply (refuse refusal)
own_refusal refusal h = record { own = h }

own_grant : (answer : ℕ) (effects : List Effect) → OwnReply (grant answer effects)
own_grant answer effects = record { own = refl }

own_delivery : (answer : ℕ) (effects : List Effect) (block : List ℕ) → OwnReply (deliver answer effects block)
own_delivery answer effects block = record { own = refl }

own_choice : (test : Bool) (x y : Verdict) → OwnReply x → OwnReply y → OwnReply (if test then x else y)
own_choice test x y h k = either_way OwnReply test x y h k

module _ (s : State) (c : Call) where
  -- what a number leads to, and whether it is among the built ones: where it is, to a rule with a reply of its own
  record Dispatched (among : Bool) (built : Built) : Type 0 where
    unlisted : among ≡ false → built ≡ not_built
    rule_of_lem : among ≡ true → (verdict : State → Call → Verdict) × (built ≡ rule verdict) × OwnReply (verdict s c)

  dispatched_none : Dispatched false not_built
  dispatched_none = record { unlisted = λ h. refl; rule_of_lem = λ h. absurd (false≢true h) }

  dispatched_or : (test rest : Bool) (verdict : State → Call → Verdict) (built : Built) → OwnReply (verdict s c) → Dispatched rest built →
      Dispatched (test || rest) (if test then rule verdict else built)
  dispatched_or true rest verdict built own later = record { unlisted = λ h. absurd (true≢false h); rule_of_lem = λ h. (verdict, refl, own) }
  dispatched_or false rest verdict built own later = later

  dispatched : Dispatched (member c.number built_numbers) (hypercall c.number)
  unfolding hypercall member any portal_call creation create_pd create_ec create_sc create_pt create_sm revoke lookup sm_ctrl
  dispatched = search (dispatched_or, dispatched_none, own_choice, own_refusal, own_grant, own_delivery) depth 20

  module _ (sound : sound_state s ≡ true) where
    -- a number that is not built
    unbuilt : member c.number built_numbers ≡ false → rules s c ≡ refuse BadHyp
    unfolding rules called
    unbuilt f = rw (sound, dispatched.unlisted f)

    -- a number that is built, by a caller that is no EC, and by one that is
    no_caller : member c.number built_numbers ≡ true → is_ec s c.caller ≡ false → rules s c ≡ refuse BadCaller
    unfolding rules called
    no_caller t f = let (verdict, is, own) = dispatched.rule_of_lem t in rw (sound, is, f)

    by_caller : member c.number built_numbers ≡ true → is_ec s c.caller ≡ true → is_outer (reply_of (rules s c)) ≡ false
    unfolding rules called
    by_caller t e = let (verdict, is, own) = dispatched.rule_of_lem t in rw (sound, is, e) own.own

    no_ec_lem : is_ec s c.caller ≡ false → NamesEc s c.caller → ⊥
    no_ec_lem f names = not_both (is_ec s c.caller) (is_ec_lem s c.caller names.0 names.1) f

    hyp_exactly : (reply_of (rules s c) ≡ Err BadHyp) ↔ (member c.number built_numbers ≡ false)
    hyp_exactly = (
      λ e.
          cases (member c.number built_numbers)
          (λ (t : member c.number built_numbers ≡ true).
          cases (is_ec s c.caller)
          (λ (h : is_ec s c.caller ≡ true). not_both (is_outer (reply_of (rules s c))) (rw e) (by_caller t h))
          (λ (h : is_ec s c.caller ≡ false). absurd (omega (arith, ap status_of (sym e ∙ ap reply_of (no_caller t h))))))
          (λ (f : member c.number built_numbers ≡ false). f),
      λ f. ap reply_of (unbuilt f),
    )

    caller_exactly : (reply_of (rules s c) ≡ Err BadCaller) ↔ ((member c.number built_numbers ≡ true) × (NamesEc s c.caller → ⊥))
    caller_exactly = (
      λ e.
          cases (member c.number built_numbers)
          (λ (t : member c.number built_numbers ≡ true).
          cases (is_ec s c.caller)
          (λ (h : is_ec s c.caller ≡ true). not_both (is_outer (reply_of (rules s c))) (rw e) (by_caller t h))
          (λ (h : is_ec s c.caller ≡ false). (t, no_ec_lem h)))
          (λ (f : member c.number built_numbers ≡ false). absurd (omega (arith, ap status_of (sym e ∙ ap reply_of (unbuilt f))))),
      λ x.
          cases (is_ec s c.caller) (λ (h : is_ec s c.caller ≡ true). absurd (x.1 (ec_small s c.caller h, ec_kind s c.caller h)))
          (λ (h : is_ec s c.caller ≡ false). ap reply_of (no_caller x.0 h)),
    )

pub dispatch_refused_exactly : DispatchRefusedExactly
dispatch_refused_exactly = record { bad_hyp = hyp_exactly; bad_caller = caller_exactly }
