-- SM_CTRL on tables: what each way out of the code runs, by the values that the code has there.
use Prim.Native.Nat.{ℕ, ◌+◌, ◌-◌, ◌≤◌, ◌<◌}
use mathlib.Core.Path.{◌≡◌, refl, sym, ap, ◌∙◌}
use mathlib.Core.Logic.{◌≢◌}
use mathlib.Core.Bool.{true, false}
use mathlib.Core.List.{List, [], ◌∷◌}
use native.Mathlib.Omega.{arith}
use lib.Dec.{eqb, ltb}
use borrow.Author.Tests.{le-leb, lt-leb, lt-ltb, le-ltb, eq-eqb, ne_eqb}
use Rattle.words.specs.Fields.{greatest_word}
use Rattle.words.specs.Sizes.{records}
use Rattle.reply.specs.Replies.{Reply}
use Rattle.reply.specs.declared.Refusal.TheVariants.{ComTim, BadCap, BadPar}
use Rattle.std.specs.Prelude.{if◌then◌else◌, Ok, Err}
use Rattle.interface.specs.Basics.{put, put_from}
use Rattle.interface.specs.Places.{Cap, SM, domain_word, count_word, object_place, permitted, cap_at, object_at, record_table, tables, view}
use Rattle.interface.specs.Effects.{count, act, run}
use Rattle.interface.specs.Verdicts.{Call, Verdict, grant, require◌else◌then◌}
use Rattle.interface.specs.Rules.{Runs}
use Rattle.interface.specs.Semaphores.{up, down, sm_ctrl}
use Rattle.capabilities.specs.Callers.{Called}
use Rattle.semaphores.specs.declared.Operation.{Operation}
use Rattle.semaphores.specs.declared.Operation.TheVariants.{Up, Down}
use Rattle.semaphores.specs.Operations.{number_of}
use Rattle.capabilities.proofs.CallerLaws.{named_record, places_kept, refused_runs, granted_runs}

-- what the function promises, from the tables before to an object table and a reply
abbrev pub Answers : List ℕ → List ℕ → ℕ → ℕ → ℕ → List ℕ → Reply → Type 0
Answers places objects caller selector operation after reply =
    (c : Call) → c.caller ≡ caller → c.first ≡ selector → c.second ≡ operation → Runs sm_ctrl c (tables places objects) (tables places after) reply

-- what a number that is read as an operation is
pub known_operation : (number : ℕ) (operation : Operation) → number_of operation ≡ number → number ≤ down
known_operation number Up e = omega arith
known_operation number Down e = omega arith

pub is_up : {number : ℕ} {operation : Operation} → operation ≡ Up → number_of operation ≡ number → number ≡ up
is_up is_operation e = sym e ∙ ap number_of is_operation

pub is_down : {number : ℕ} {operation : Operation} → operation ≡ Down → number_of operation ≡ number → number ≢ up
is_down is_operation e z = omega (arith, ap number_of is_operation)

-- the place that a call names
abbrev pub named : List ℕ → ℕ → ℕ → ℕ
named objects caller selector = object_place (object_at objects caller domain_word) selector

module _ {places objects : List ℕ} {caller : ℕ} (called : Called places objects caller) where
  -- an operation past the last
  pub unknown_operation : {selector operation : ℕ} → down < operation → Answers places objects caller selector operation objects (Err BadPar)
  unfolding sm_ctrl
  unknown_operation {selector} {operation} past c is_caller is_selector is_operation =
      refused_runs called (rw (is_operation, lt-leb operation down past))

  -- a place without the capability
  pub not_permitted : {selector operation place : ℕ} → operation ≤ down → place ≡ named objects caller selector →
      permitted (view places objects) place SM operation ≡ false → Answers places objects caller selector operation objects (Err BadCap)
  unfolding sm_ctrl
  not_permitted {selector} {operation} known is_place none c is_caller is_selector is_operation =
      refused_runs called (rw (is_caller, is_selector, is_operation, ← is_place, le-leb operation down known, none))

-- a call that passes the first two checks
pub record Allowed (places objects : List ℕ) (caller selector operation place : ℕ) : Type 0 where
  pub called : Called places objects caller
  pub known : operation ≤ down
  pub is_place : place ≡ named objects caller selector
  pub allowed : permitted (view places objects) place SM operation ≡ true

-- what its place names is a record
pub semaphore_record : {places objects : List ℕ} {caller selector operation place : ℕ} {cap : Cap} → Allowed places objects caller selector operation place →
    cap ≡ cap_at places place → cap.resource < records
semaphore_record {selector = selector} {operation = operation} a is_cap =
    named_record a.called selector SM operation refl a.is_place a.allowed is_cap

-- the semaphore that such a call names, and its count
pub record Counted (places objects : List ℕ) (caller selector operation place number value : ℕ) : Type 0 where
  pub call : Allowed places objects caller selector operation place
  pub is_number : number ≡ (cap_at places place).resource
  pub is_value : value ≡ object_at objects number count_word

module _ {places objects : List ℕ} {caller selector operation place number value : ℕ}
    (k : Counted places objects caller selector operation place number value) where
  -- what is left of the rule
  module _ (c : Call) where
    abbrev raise : Verdict
    raise = require ltb value greatest_word else BadPar then grant 0 (count number (value + 1) ∷ [])

    abbrev lower : Verdict
    lower = require ltb 0 value else ComTim then grant 0 (count number (value - 1) ∷ [])

    left : c.caller ≡ caller → c.first ≡ selector → c.second ≡ operation → sm_ctrl (view places objects) c ≡ (if eqb operation up then raise else lower)
    unfolding sm_ctrl
    left is_caller is_selector is_operation =
        rw (is_caller, is_selector, is_operation, ← k.call.is_place, le-leb operation down k.call.known, k.call.allowed, ← k.is_number, ← k.is_value)

    -- the store of a count
    stores : {next : ℕ} {after : List ℕ} → sm_ctrl (view places objects) c ≡ grant 0 (count number next ∷ []) →
        after ≡ record_table (put (object_at objects) number (put (object_at objects number) count_word next)) →
        Runs sm_ctrl c (tables places objects) (tables places after) (Ok 0)
    unfolding act run put_from
    stores granted stored = granted_runs k.call.called granted (sym (places_kept k.call.called)) stored

  -- up, where the count is the greatest word, and below
  module _ (is_up : operation ≡ up) where
    pub full : value ≡ greatest_word → Answers places objects caller selector operation objects (Err BadPar)
    full top c is_caller is_selector is_operation =
        refused_runs k.call.called
        (left c is_caller is_selector is_operation ∙ rw (eq-eqb operation up is_up, le-ltb value greatest_word (omega arith)))

    pub raised : {after : List ℕ} → value < greatest_word →
        after ≡ record_table (put (object_at objects) number (put (object_at objects number) count_word (value + 1))) →
        Answers places objects caller selector operation after (Ok 0)
    raised fits stored c is_caller is_selector is_operation =
        stores c (left c is_caller is_selector is_operation ∙ rw (eq-eqb operation up is_up, lt-ltb value greatest_word fits)) stored

  -- down, where the count is 0, and above
  module _ (is_down : operation ≢ up) where
    pub empty : value ≡ 0 → Answers places objects caller selector operation objects (Err ComTim)
    empty none c is_caller is_selector is_operation =
        refused_runs k.call.called
        (left c is_caller is_selector is_operation ∙ rw (ne_eqb operation up is_down, le-ltb 0 value (omega arith)))

    pub lowered : {after : List ℕ} → value ≢ 0 →
        after ≡ record_table (put (object_at objects) number (put (object_at objects number) count_word (value - 1))) →
        Answers places objects caller selector operation after (Ok 0)
    lowered some stored c is_caller is_selector is_operation =
        stores c (left c is_caller is_selector is_operation ∙ rw (ne_eqb operation up is_down, lt-ltb 0 value (omega arith))) stored
