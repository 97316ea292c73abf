-- Whatever a rule grants, its steps fit the state in turn.
use Prim.Native.Nat.{ℕ}
use mathlib.Core.Path.{◌≡◌}
use mathlib.Core.Bool.{true, false, not}
use mathlib.Core.List.{[]}
use lib.Dec.{eqb}
use borrow.Author.Tests.{eqb-true}
use Rattle.reply.specs.declared.Refusal.{Refusal}
use Rattle.reply.specs.Replies.{Reply}
use Rattle.reply.specs.declared.Refusal.TheVariants.{Damaged, BadPar, BadCaller}
use Rattle.std.specs.Prelude.{if◌then◌else◌}
use Rattle.interface.specs.Places.{State}
use Rattle.interface.specs.Damage.{is_ec, sound_state}
use Rattle.interface.specs.RangeDescriptors.{reading, malformed}
use Rattle.interface.specs.Verdicts.{Call, CALL, CREATE_PD, CREATE_EC, CREATE_SC, CREATE_PT, CREATE_SM, REVOKE, LOOKUP, SM_CTRL, Verdict, refuse, grant, effects_of, caller_domain}
use Rattle.interface.specs.Creations.{create_pd, create_ec, create_sc, create_pt, create_sm}
use Rattle.interface.specs.Revoke.{revoke}
use Rattle.interface.specs.Lookup.{found, lookup}
use Rattle.interface.specs.Semaphores.{sm_ctrl}
use Rattle.interface.specs.PortalCalls.{portal_call}
use Rattle.interface.specs.Rules.{Built, rule, not_built, hypercall, called, rules}
use Rattle.interface.proofs.Basics.BoolLaws.{cases}
use Rattle.interface.proofs.Sound.Soundness.{Sound, sound_facts}
use Rattle.interface.proofs.Tables.Steps.{FitInTurn}
use Rattle.interface.proofs.Tables.TurnLaws.{require_so, require_fits}
use Rattle.interface.proofs.Sound.RevokeFits.{revoke_fits}
use Rattle.interface.proofs.Sound.SemaphoresFit.{semaphore_fits}
use Rattle.interface.proofs.Sound.CreationsFit.{pd_creation_fits, ec_creation_fits, sc_creation_fits, pt_creation_fits, sm_creation_fits}
use Rattle.interface.proofs.Sound.MessageFits.{call_fits}

-- LOOKUP takes no steps
lookup_fits : (s : State) (c : Call) → FitInTurn (effects_of (lookup s c)) s
unfolding lookup
lookup_fits s c =
    require_fits s (not (malformed (reading c.first))) BadPar (grant (found s (caller_domain s c) (reading c.first)) []) (λ _. tt)

-- one number's rule, of which something holds where the caller is an EC, and what the other numbers stand for
pub or_else : (P : Verdict → Type 0) (s : State) (c : Call) → ((refusal : Refusal) → P (refuse refusal)) → (number : ℕ) (verdict : State → Call → Verdict) (others : Built) →
    (is_ec s c.caller ≡ true → c.number ≡ number → P (verdict s c)) → P (called s c others) →
    P (called s c (if eqb c.number number then rule verdict else others))
unfolding called
or_else P s c refused number verdict others f g =
    cases (eqb c.number number)
    (λ (t : eqb c.number number ≡ true).
    rw t (require_so P (is_ec s c.caller) BadCaller (verdict s c) (refused BadCaller) (λ e. f e (eqb-true c.number number t))))
    (λ (n : eqb c.number number ≡ false). rw n g)

module _ (s : State) (c : Call) (k : Sound s) where
  -- one number's rule whose steps fit, and what the other numbers stand for
  fits_else : (number : ℕ) (verdict : State → Call → Verdict) (others : Built) → (is_ec s c.caller ≡ true → FitInTurn (effects_of (verdict s c)) s) →
      FitInTurn (effects_of (called s c others)) s → FitInTurn (effects_of (called s c (if eqb c.number number then rule verdict else others))) s
  fits_else number verdict others f =
      or_else (λ (v : Verdict). FitInTurn (effects_of v) s) s c (λ reply. tt) number verdict others (λ e n. f e)

  -- the rule of every number
  hypercall_fits : FitInTurn (effects_of (called s c (hypercall c.number))) s
  unfolding hypercall called
  hypercall_fits =
      fits_else CALL portal_call _ (call_fits s c k)
      (fits_else CREATE_PD create_pd _ (pd_creation_fits s c k)
      (fits_else CREATE_EC create_ec _ (ec_creation_fits s c k)
      (fits_else CREATE_SC create_sc _ (sc_creation_fits s c k)
      (fits_else CREATE_PT create_pt _ (pt_creation_fits s c k)
      (fits_else CREATE_SM create_sm _ (sm_creation_fits s c k)
      (fits_else REVOKE revoke _ (revoke_fits s c k)
      (fits_else LOOKUP lookup _ (λ _. lookup_fits s c)
      (fits_else SM_CTRL sm_ctrl not_built (semaphore_fits s c k)
      tt))))))))

-- every rule tests first that the state is sound
pub rules_fit : (s : State) (c : Call) → FitInTurn (effects_of (rules s c)) s
unfolding rules
rules_fit s c =
    require_fits s (sound_state s) Damaged (called s c (hypercall c.number)) (λ h. hypercall_fits s c (sound_facts s h))
