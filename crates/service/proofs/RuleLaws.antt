-- The rules by their numbers: which rule a number has; and that LOOKUP leaves the tables.
use Prim.Native.Nat.{ℕ}
use mathlib.Core.Path.{◌≡◌, refl, sym}
use mathlib.Core.Bool.{true, false}
use mathlib.Core.List.{List, []}
use borrow.Author.Tests.{ne_eqb}
use Rattle.reply.specs.Replies.{Reply}
use Rattle.interface.specs.Places.{State, tables, view}
use Rattle.interface.specs.RangeDescriptors.{reading, malformed}
use Rattle.interface.specs.Effects.{run}
use Rattle.interface.specs.Verdicts.{Call, Verdict, reply_of, effects_of, CALL, CREATE_PD, CREATE_EC, CREATE_SC, CREATE_PT, CREATE_SM, REVOKE, LOOKUP, SM_CTRL}
use Rattle.interface.specs.Creations.{create_pd, create_ec, create_sc, create_pt, create_sm}
use Rattle.interface.specs.Revoke.{revoke}
use Rattle.interface.specs.Lookup.{lookup}
use Rattle.interface.specs.Semaphores.{sm_ctrl}
use Rattle.interface.specs.PortalCalls.{portal_call}
use Rattle.interface.specs.Rules.{rule, not_built, hypercall, Runs}
use Rattle.interface.proofs.Basics.BoolLaws.{cases}
use Rattle.interface.proofs.Tables.TableLaws.{sound_sized}
use Rattle.interface.proofs.Consequences.ConsequenceLaws.{tables_back}
use Rattle.capabilities.specs.Callers.{Called}
use Rattle.service.specs.declared.Hypercall.{Hypercall}
use Rattle.service.specs.declared.Hypercall.TheVariants.{Call as CallNamed, CreatePd, CreateEc, CreateSc, CreatePt, CreateSm, Revoke, Lookup, SmCtrl}
use Rattle.service.specs.Admission.{number_of}

-- the rule of a hypercall
abbrev pub rule_of : Hypercall → State → Call → Verdict
rule_of CallNamed = portal_call
rule_of CreatePd = create_pd
rule_of CreateEc = create_ec
rule_of CreateSc = create_sc
rule_of CreatePt = create_pt
rule_of CreateSm = create_sm
rule_of Revoke = revoke
rule_of Lookup = lookup
rule_of SmCtrl = sm_ctrl

-- the rules of the numbers
module _ (number : ℕ) where
  pub is_call : number ≡ CALL → hypercall number ≡ rule portal_call
  unfolding hypercall
  is_call e = rw e

  pub is_create_pd : number ≡ CREATE_PD → hypercall number ≡ rule create_pd
  unfolding hypercall
  is_create_pd e = rw e

  pub is_create_ec : number ≡ CREATE_EC → hypercall number ≡ rule create_ec
  unfolding hypercall
  is_create_ec e = rw e

  pub is_create_sc : number ≡ CREATE_SC → hypercall number ≡ rule create_sc
  unfolding hypercall
  is_create_sc e = rw e

  pub is_create_pt : number ≡ CREATE_PT → hypercall number ≡ rule create_pt
  unfolding hypercall
  is_create_pt e = rw e

  pub is_create_sm : number ≡ CREATE_SM → hypercall number ≡ rule create_sm
  unfolding hypercall
  is_create_sm e = rw e

  pub is_revoke : number ≡ REVOKE → hypercall number ≡ rule revoke
  unfolding hypercall
  is_revoke e = rw e

  pub is_lookup : number ≡ LOOKUP → hypercall number ≡ rule lookup
  unfolding hypercall
  is_lookup e = rw e

  pub is_sm_ctrl : number ≡ SM_CTRL → hypercall number ≡ rule sm_ctrl
  unfolding hypercall
  is_sm_ctrl e = rw e

  -- any other number has none
  pub is_not_built : (number ≡ CALL → ⊥) → (number ≡ CREATE_PD → ⊥) → (number ≡ CREATE_EC → ⊥) → (number ≡ CREATE_SC → ⊥) → (number ≡ CREATE_PT → ⊥) →
      (number ≡ CREATE_SM → ⊥) → (number ≡ REVOKE → ⊥) → (number ≡ LOOKUP → ⊥) → (number ≡ SM_CTRL → ⊥) → hypercall number ≡ not_built
  unfolding hypercall
  is_not_built a b c d e f g h i =
      rw (
        ne_eqb number CALL a,
        ne_eqb number CREATE_PD b,
        ne_eqb number CREATE_EC c,
        ne_eqb number CREATE_SC d,
        ne_eqb number CREATE_PT e,
        ne_eqb number CREATE_SM f,
        ne_eqb number REVOKE g,
        ne_eqb number LOOKUP h,
        ne_eqb number SM_CTRL i,
      )

-- the rule of each hypercall's number
pub has_rule : (call : Hypercall) → hypercall (number_of call) ≡ rule (rule_of call)
has_rule CallNamed = is_call _ refl
has_rule CreatePd = is_create_pd _ refl
has_rule CreateEc = is_create_ec _ refl
has_rule CreateSc = is_create_sc _ refl
has_rule CreatePt = is_create_pt _ refl
has_rule CreateSm = is_create_sm _ refl
has_rule Revoke = is_revoke _ refl
has_rule Lookup = is_lookup _ refl
has_rule SmCtrl = is_sm_ctrl _ refl

-- LOOKUP takes no steps
lookup_steps : (s : State) (c : Call) → effects_of (lookup s c) ≡ []
unfolding lookup
lookup_steps s c =
    cases (malformed (reading c.first)) (λ (t : malformed (reading c.first) ≡ true). rw t)
    (λ (f : malformed (reading c.first) ≡ false). rw f)

pub lookup_runs : (places objects : List ℕ) (caller : ℕ) (c : Call) (reply : Reply) → Called places objects caller →
    reply ≡ reply_of (lookup (view places objects) c) → Runs lookup c (tables places objects) (tables places objects) reply
unfolding run
lookup_runs places objects caller c reply called e =
    record {
      replies = e;
      leaves =
          rw (lookup_steps (view places objects) c)
          (sym (tables_back (tables places objects) (sound_sized (tables places objects) called.is_sound)));
    }
