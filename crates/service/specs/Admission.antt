-- Who is admitted to a call on sound tables: a caller that is an EC, with a number that is built.
use Rattle.std.specs.Prelude.{Result, Ok, Err, ℕ, ◌≡◌, Bool, true, false, List, MatchResult}
use Rattle.reply.specs.declared.Refusal.{Refusal}
use Rattle.layout.specs.declared.ObjectNumber.{ObjectNumber}
use Rattle.reply.specs.declared.Refusal.TheVariants.{BadHyp, BadCaller}
use Rattle.interface.specs.Places.{view}
use Rattle.interface.specs.Damage.{is_ec}
use Rattle.interface.specs.Verdicts.{CALL, CREATE_PD, CREATE_EC, CREATE_SC, CREATE_PT, CREATE_SM, REVOKE, LOOKUP, SM_CTRL}
use Rattle.interface.specs.Rules.{not_built, hypercall}
use Rattle.service.specs.declared.Hypercall.{Hypercall}
use Rattle.service.specs.declared.Hypercall.TheVariants.{Call, CreatePd, CreateEc, CreateSc, CreatePt, CreateSm, Revoke, Lookup, SmCtrl}
use Rattle.service.specs.declared.NotBuilt.{NotBuilt}

-- the number of a hypercall
abbrev pub number_of : Hypercall → ℕ
number_of Call = CALL
number_of CreatePd = CREATE_PD
number_of CreateEc = CREATE_EC
number_of CreateSc = CREATE_SC
number_of CreatePt = CREATE_PT
number_of CreateSm = CREATE_SM
number_of Revoke = REVOKE
number_of Lookup = LOOKUP
number_of SmCtrl = SM_CTRL

-- a number is read as the hypercall that has it, and as none where it has no rule
abbrev pub Reads : ℕ → Result Hypercall NotBuilt → Type 0
Reads number read = MatchResult read (λ named. number_of named ≡ number) (λ none. hypercall number ≡ not_built)

-- the number is tested before the caller
abbrev pub admission : Result Hypercall NotBuilt → (known : Bool) → ObjectNumber → Result (Hypercall × ObjectNumber) Refusal
admission (Ok named) true ec = Ok (named, ec)
admission (Ok named) false ec = Err BadCaller
admission (Err none) true ec = Err BadHyp
admission (Err none) false ec = Err BadHyp

-- what a number and a caller come to, by what the number is read as and whether the caller is an EC
pub record Admits (places objects : List ℕ) (number caller : ℕ) (admitted : Result (Hypercall × ObjectNumber) Refusal) : Type 0 where
  pub read : Result Hypercall NotBuilt
  pub reads : Reads number read
  pub comes_to : admitted ≡ admission read (is_ec (view places objects) caller) (record { 0 = caller })
