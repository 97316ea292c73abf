-- The rules of every hypercall, on what the tables show and on the tables themselves.
use Rattle.std.specs.Prelude.{ℕ, ◌≡◌, List, eqb, if◌then◌else◌, Ok, Err}
use Rattle.reply.specs.Replies.{Reply}
use Rattle.reply.specs.declared.Refusal.TheVariants.{Damaged, BadHyp, BadCaller}
use Rattle.interface.specs.Places.{State, Tables, sized, shown, tables_of}
use Rattle.interface.specs.Boot.{boot}
use Rattle.interface.specs.Damage.{sound_state, is_ec}
use Rattle.interface.specs.Effects.{run}
use Rattle.interface.specs.Verdicts.{Call, CALL, CREATE_PD, CREATE_EC, CREATE_SC, CREATE_PT, CREATE_SM, REVOKE, LOOKUP, SM_CTRL, Verdict, refuse, require◌else◌then◌, reply_of, effects_of, block_of}
use Rattle.interface.specs.Creations.{create_pd, create_ec, create_sc, create_pt, create_sm}
use Rattle.interface.specs.Revoke.{revoke}
use Rattle.interface.specs.Lookup.{lookup}
use Rattle.interface.specs.Semaphores.{sm_ctrl}
use Rattle.interface.specs.PortalCalls.{portal_call}

-- the rule of a hypercall number, or that it is not built
pub data Built : Type 0 where
  rule : (State → Call → Verdict) → Built
  not_built : Built

unfoldable pub hypercall : ℕ → Built
hypercall number =
    if eqb number CALL then rule portal_call else
    if eqb number CREATE_PD then rule create_pd else
    if eqb number CREATE_EC then rule create_ec else
    if eqb number CREATE_SC then rule create_sc else
    if eqb number CREATE_PT then rule create_pt else
    if eqb number CREATE_SM then rule create_sm else
    if eqb number REVOKE then rule revoke else
    if eqb number LOOKUP then rule lookup else
    if eqb number SM_CTRL then rule sm_ctrl else
    not_built

-- a number that is not built is refused before the caller is looked at, and a caller that is no EC before the call's own checks
unfoldable pub called : State → Call → Built → Verdict
called s c not_built = refuse BadHyp
called s c (rule verdict) = require is_ec s c.caller else BadCaller then verdict s c

-- the verdict on a call: damage is tested before all else
unfoldable pub rules : State → Call → Verdict
rules s c = require sound_state s else Damaged then called s c (hypercall c.number)

-- the state after a call
unfoldable pub after : State → Call → State
after s c = run (effects_of (rules s c)) s

-- the verdict on a call that is given tables of any lengths
unfoldable pub judged : Tables → Call → Verdict
judged tables c = require sized tables else Damaged then rules (shown tables) c

-- a call's reply, the callee's block and the tables after it; the caller's block is only read
abbrev pub hypercall_reply : Tables → Call → Reply
hypercall_reply tables c = reply_of (judged tables c)

abbrev pub hypercall_block : Tables → Call → List ℕ
hypercall_block tables c = block_of c.target (judged tables c)

unfoldable pub hypercall_tables : Tables → Call → Tables
hypercall_tables tables c = if sized tables then tables_of (after (shown tables) c) else tables

-- boot on lent tables: whatever they held, they are boot's; tables of other lengths are damaged, and stay
unfoldable pub boot_reply : Tables → Reply
boot_reply tables = if sized tables then Ok 0 else Err Damaged

unfoldable pub boot_tables : Tables → Tables
boot_tables tables = if sized tables then tables_of boot else tables

-- what code that runs a call's rule promises: the reply is the verdict's, and the tables are those that its steps leave
pub record Runs (verdict : State → Call → Verdict) (c : Call) (before after : Tables) (reply : Reply) : Type 0 where
  pub replies : reply ≡ reply_of (verdict (shown before) c)
  pub leaves : after ≡ tables_of (run (effects_of (verdict (shown before) c)) (shown before))
