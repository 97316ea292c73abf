-- Calls and verdicts: what a rule is asked, and what it answers.
use Rattle.std.specs.Prelude.{ℕ, Bool, cond, List, [], Ok, Err}
use Rattle.reply.specs.declared.Refusal.{Refusal}
use Rattle.reply.specs.Replies.{Reply}
use Rattle.interface.specs.Places.{State, domain_word}
use Rattle.interface.specs.Effects.{Effect}

-- a hypercall: its number, the caller's EC number, the words after it in the order of the journal, and two message blocks, the caller's and the callee's
pub record Call : Type 0 where
  pub number : ℕ
  pub caller : ℕ
  pub first : ℕ
  pub second : ℕ
  pub third : ℕ
  pub fourth : ℕ
  pub fifth : ℕ
  pub sixth : ℕ
  pub source : List ℕ
  pub target : List ℕ

-- the numbers of the hypercalls that are built
abbrev pub CALL : ℕ
CALL = 0

abbrev pub CREATE_PD : ℕ
CREATE_PD = 2

abbrev pub CREATE_EC : ℕ
CREATE_EC = 3

abbrev pub CREATE_SC : ℕ
CREATE_SC = 4

abbrev pub CREATE_PT : ℕ
CREATE_PT = 5

abbrev pub CREATE_SM : ℕ
CREATE_SM = 6

abbrev pub REVOKE : ℕ
REVOKE = 7

abbrev pub LOOKUP : ℕ
LOOKUP = 8

abbrev pub SM_CTRL : ℕ
SM_CTRL = 11

-- the caller's domain, in which its selectors and descriptors are read
abbrev pub caller_domain : State → Call → ℕ
caller_domain s c = s.objects c.caller domain_word

-- a rule's verdict: a refusal; or an answer and the steps to take, which leaves the callee's block; or, for a message, these and the block as it is given back
pub data Verdict : Type 0 where
  refuse : Refusal → Verdict
  grant : (answer : ℕ) → List Effect → Verdict
  deliver : (answer : ℕ) → List Effect → (block : List ℕ) → Verdict

-- a check of a rule: where its test fails the call is refused, else the rule goes on
infixr 4 require◌else◌then◌
abbrev pub require◌else◌then◌ : Bool → Refusal → Verdict → Verdict
require test else refusal then next = cond test next (refuse refusal)

-- a verdict's reply: SUCCESS with the answer where the call is not refused
abbrev pub reply_of : Verdict → Reply
reply_of (refuse refusal) = Err refusal
reply_of (grant answer effects) = Ok answer
reply_of (deliver answer effects block) = Ok answer

-- a verdict's steps: a refused call takes none
abbrev pub effects_of : Verdict → List Effect
effects_of (refuse refusal) = []
effects_of (grant answer effects) = effects
effects_of (deliver answer effects block) = effects

-- the callee's block after the call: only a message changes it
abbrev pub block_of : List ℕ → Verdict → List ℕ
block_of target (refuse refusal) = target
block_of target (grant answer effects) = target
block_of target (deliver answer effects block) = block
