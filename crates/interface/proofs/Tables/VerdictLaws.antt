-- Laws of verdicts: what a call that is granted tells of the checks of its rule and of the state after it.
use Rattle.reply.specs.declared.Refusal.{Refusal}
use Rattle.std.specs.Prelude.{Ok, Err}
use mathlib.Core.Path.{◌≡◌, refl, sym, ap, ◌∙◌}
use mathlib.Core.Bool.{Bool, true, false, true≢false}
use mathlib.Core.List.{List}
use Prim.Native.Nat.{ℕ}
use native.Mathlib.Omega.{arith}
use Rattle.reply.specs.Replies.{status_of, Reply}
use Rattle.reply.specs.declared.Refusal.TheVariants.{Damaged, BadCaller}
use Rattle.interface.specs.Places.{State, Tables}
use Rattle.interface.specs.Damage.{sound_state, is_ec}
use Rattle.interface.specs.Effects.{run}
use Rattle.interface.specs.Verdicts.{Call, Verdict, refuse, grant, deliver, require◌else◌then◌, reply_of, effects_of}
use Rattle.interface.specs.Rules.{rule, hypercall, called, rules, after}
use Rattle.interface.specs.Outcomes.{Outcome, outcome, answered}

-- whether a verdict refuses the call
abbrev pub refuses : Verdict → Bool
refuses (refuse reply) = true
refuses (grant answer effects) = false
refuses (deliver answer effects block) = false

-- the verdict of a call that is granted, a message's or another's
module _ (given : Verdict) (is_granted : refuses given ≡ false) where
  -- a check of a rule that comes to it was passed, and what follows the check comes to it
  pub required : (test : Bool) (refusal : Refusal) (next : Verdict) → (require test else refusal then next) ≡ given → (test ≡ true) × (next ≡ given)
  required true reply next h = (refl, h)
  required false reply next h = absurd (true≢false (ap refuses h ∙ is_granted))

  module _ (s : State) (c : Call) (granted : rules s c ≡ given) where
    -- a granted call is granted by the rule of its number
    pub rule_grants : (verdict : State → Call → Verdict) → hypercall c.number ≡ rule verdict → verdict s c ≡ given
    unfolding rules called
    rule_grants verdict e =
        (required (is_ec s c.caller) BadCaller (verdict s c)
        (ap (called s c) (sym e) ∙ (required (sound_state s) Damaged (called s c (hypercall c.number)) granted).1)).1

    -- once the state has been found sound and its caller an EC
    pub rule_checked : (verdict : State → Call → Verdict) → hypercall c.number ≡ rule verdict → (sound_state s ≡ true) × (is_ec s c.caller ≡ true)
    unfolding rules called
    rule_checked verdict e =
        let on_sound = required (sound_state s) Damaged (called s c (hypercall c.number)) granted in
        (on_sound.0, (required (is_ec s c.caller) BadCaller (verdict s c) (ap (called s c) (sym e) ∙ on_sound.1)).0)

-- a rule that succeeds goes on behind its check
pub succeeds : (test : Bool) (refusal : Refusal) (next : Verdict) (answer : ℕ) → (status_of (Err refusal) ≡ 0 → ⊥) →
    reply_of (require test else refusal then next) ≡ Ok answer → (require test else refusal then next) ≡ next
succeeds true reply next answer n h = refl
succeeds false reply next answer n h = absurd (n (ap status_of h))

-- two replies of SUCCESS that are equal have equal answers
pub success_same : {a b : ℕ} → ◌≡◌ {A = Reply} (Ok a) (Ok b) → a ≡ b
success_same e = cc

-- a call that succeeds has the verdict of its number's rule
pub rule_succeeds : (s : State) (c : Call) (answer : ℕ) (verdict : State → Call → Verdict) → hypercall c.number ≡ rule verdict →
    reply_of (rules s c) ≡ Ok answer → rules s c ≡ verdict s c
unfolding rules called
rule_succeeds s c answer verdict e h =
    let on_sound = succeeds (sound_state s) Damaged (called s c (hypercall c.number)) answer (λ z. omega arith) h in
    let by_rule = on_sound ∙ ap (called s c) e in
    by_rule ∙ succeeds (is_ec s c.caller) BadCaller (verdict s c) answer (λ z. omega arith) (ap reply_of (sym by_rule) ∙ h)

-- on a sound state the rules go on to the number and the caller
pub sound_rules : (s : State) (c : Call) → sound_state s ≡ true → rules s c ≡ called s c (hypercall c.number)
unfolding rules
sound_rules s c h = rw h

-- a call takes the steps of its verdict
pub after_verdict : (s : State) (c : Call) (given : Verdict) → rules s c ≡ given → after s c ≡ run (effects_of given) s
unfolding after
after_verdict s c given e = rw e

-- an outcome's reply and tables are the answer
pub answers : (here after : Tables) (reply : Reply) (block : List ℕ) (c : Call) → record { reply = reply; tables = after; block = block } ≡ outcome here c →
    record { reply = reply; tables = after } ≡ answered here c
answers here after reply block c ran = ap (λ (o : Outcome). record { reply = o.reply; tables = o.tables }) ran
