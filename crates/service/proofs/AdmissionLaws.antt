-- Who is admitted, and from what a call's rule came to, to what a hypercall on sound tables promises.
use Rattle.std.specs.Prelude.{Some, None, Ok, Err, Result}
use Prim.Native.Nat.{ℕ, ◌<◌}
use mathlib.Core.Path.{◌≡◌, refl, sym, ap, ◌∙◌, subst}
use mathlib.Core.Bool.{Bool, true, false, true≢false}
use mathlib.Core.List.{List}
use native.Mathlib.Omega.{arith}
use Rattle.reply.specs.declared.Refusal.{Refusal}
use Rattle.reply.specs.Replies.{status_of, Reply}
use Rattle.reply.specs.declared.Refusal.TheVariants.{BadHyp, BadCaller}
use Rattle.layout.specs.declared.ObjectNumber.{ObjectNumber}
use lib.Dec.{ltb}
use lib.ListN.{length}
use borrow.Author.Tests.{ltb-true, lt-ltb, eq-eqb, ne_eqb}
use Rattle.words.specs.Sizes.{records}
use Rattle.layout.specs.Numbers.{numbered}
use Rattle.layout.proofs.NumberLaws.{numbered_so, numbered_inside}
use Rattle.interface.specs.Places.{State, Tables, sized, tables_of, EC, kind_word, object_at, object_table_words, tables, view}
use Rattle.interface.specs.Damage.{sound, is_ec}
use Rattle.interface.specs.Effects.{run}
use Rattle.interface.specs.Verdicts.{Call, Verdict, CALL, refuse, reply_of, effects_of, block_of}
use Rattle.interface.specs.Rules.{rule, not_built, hypercall, called, judged, after, rules, hypercall_reply, hypercall_tables, Runs}
use Rattle.interface.specs.Outcomes.{Outcome, outcome}
use Rattle.interface.specs.Demand.{tables_after}
use Rattle.interface.proofs.Basics.BoolLaws.{cases}
use Rattle.interface.proofs.Tables.TableLaws.{objects_long, sound_sized}
use Rattle.interface.proofs.Consequences.ConsequenceLaws.{judged_once, refused_stays, blocks_stay, stays_sound}
use Rattle.interface.specs.History.{hypercalls}
use Rattle.capabilities.specs.Callers.{Called}
use Rattle.service.specs.declared.Hypercall.{Hypercall}
use Rattle.service.specs.declared.NotBuilt.{NotBuilt}
use Rattle.service.specs.Admission.{number_of, Reads, admission, Admits}
use Rattle.service.proofs.RuleLaws.{rule_of, has_rule}
use Rattle.service.specs.Serving.{Serves}

-- a caller that is an object number is below the number of records
pub numbered_small : (caller : ℕ) (number : ObjectNumber) → numbered caller ≡ Some number → number.0 < records
numbered_small caller number e = let inside = numbered_inside caller number e in omega arith

-- whether a caller is an EC: not where it is past the records or its record is of another kind
module _ (places objects : List ℕ) (caller : ℕ) where
  pub beyond_no_ec : numbered caller ≡ None → is_ec (view places objects) caller ≡ false
  unfolding is_ec
  beyond_no_ec e =
      cases (ltb caller records)
      (λ (l : ltb caller records ≡ true).
      let inside = numbered_so caller (ltb-true caller records l) in
      let z : ◌≡◌ {A = ℕ} 0 1 = cc in absurd (omega arith))
      (λ (l : ltb caller records ≡ false). rw l)

  module _ (ec : ObjectNumber) (kind : ℕ) (e : numbered caller ≡ Some ec) (is_kind : kind ≡ object_at objects ec.0 kind_word) where
    pub other_no_ec : (kind ≡ EC → ⊥) → is_ec (view places objects) caller ≡ false
    unfolding is_ec
    other_no_ec other =
        let inside = numbered_inside caller ec e in
        rw (lt-ltb caller records inside.1)
        (ne_eqb (object_at objects caller kind_word) EC (λ is_ec_lem. other (is_kind ∙ ap (λ (n : ℕ). object_at objects n kind_word) inside.0 ∙ is_ec_lem)))

    pub found_ec : kind ≡ EC → is_ec (view places objects) caller ≡ true
    unfolding is_ec
    found_ec is_ec_lem =
        let inside = numbered_inside caller ec e in
        rw (lt-ltb caller records inside.1)
        (eq-eqb (object_at objects caller kind_word) EC (ap (λ (n : ℕ). object_at objects n kind_word) (sym inside.0) ∙ sym is_kind ∙ is_ec_lem))

-- an admitted call and its caller, a refusal, and what is read off them
abbrev ok_of : Hypercall → ObjectNumber → Result (Hypercall × ObjectNumber) Refusal
ok_of call ec = Ok (call, ec)

abbrev err_of : Refusal → Result (Hypercall × ObjectNumber) Refusal
err_of refusal = Err refusal

abbrev call_or : Hypercall → Result (Hypercall × ObjectNumber) Refusal → Hypercall
call_or other (Ok (call, ec)) = call
call_or other (Err refusal) = other

abbrev caller_or_0 : Result (Hypercall × ObjectNumber) Refusal → ℕ
caller_or_0 (Ok (call, ec)) = ec.0
caller_or_0 (Err refusal) = 0

abbrev is_admitted : Result (Hypercall × ObjectNumber) Refusal → Bool
is_admitted (Ok (call, ec)) = true
is_admitted (Err refusal) = false

-- the ways out of an admission
module _ (places objects : List ℕ) (number caller : ℕ) (read : Result Hypercall NotBuilt) (reads : Reads number read) where
  pub admits_none : ((call : Hypercall) → read ≡ Ok call → ⊥) → Admits places objects number caller (Err BadHyp)
  admits_none n = record { read = read; reads = reads; comes_to = by_number read (is_ec (view places objects) caller) n }
    where
      by_number : (read : Result Hypercall NotBuilt) (known : Bool) → ((call : Hypercall) → read ≡ Ok call → ⊥) →
          err_of BadHyp ≡ admission read known (record { 0 = caller })
      by_number (Ok call) known n = absurd (n call refl)
      by_number (Err none) true n = refl
      by_number (Err none) false n = refl

  module _ (call : Hypercall) (is_call : read ≡ Ok call) where
    pub admits_no_ec : is_ec (view places objects) caller ≡ false → Admits places objects number caller (Err BadCaller)
    admits_no_ec f = record { read = read; reads = reads; comes_to = rw (is_call, f) }

    pub admits_ec : (ec : ObjectNumber) → numbered caller ≡ Some ec → is_ec (view places objects) caller ≡ true →
        Admits places objects number caller (Ok (call, ec))
    admits_ec ec e t =
        record { read = read; reads = reads; comes_to = rw (is_call, t) (ap (λ (n : ℕ). ok_of call (record { 0 = n })) (numbered_inside caller ec e).0) }

-- what a hypercall comes to where its verdict is known
module _ (places objects : List ℕ) (c : Call) where
  abbrev s : State
  s = view places objects

  -- a refusal leaves the tables and the block
  pub refused_outcome : (refusal : Refusal) → judged (tables places objects) c ≡ refuse refusal → (status_of (Err refusal) ≡ 0 → ⊥) →
      Serves c (tables places objects) (tables places objects) c.target (Err refusal)
  refused_outcome refusal e n =
      let is_reply : hypercall_reply (tables places objects) c ≡ Err refusal = ap reply_of e in
      let (tables_stay, block_stays) = refused_stays.hypercall_stays (tables places objects) c (λ z. n (ap status_of (sym is_reply) ∙ z)) in
      λ i. record { reply = sym is_reply i; tables = sym tables_stay i; block = sym block_stays i }

  -- a number that is not built
  pub unbuilt_outcome : sound (tables places objects) ≡ true → hypercall c.number ≡ not_built →
      Serves c (tables places objects) (tables places objects) c.target (Err BadHyp)
  unfolding called
  unbuilt_outcome t e = refused_outcome BadHyp (judged_once (tables places objects) c ∙ (rw (t, e))) (λ z. omega arith)

  -- a built one, by an EC: its rule decides
  module _ (verdict : State → Call → Verdict) (is_rule : hypercall c.number ≡ rule verdict) (k : Called places objects c.caller) where
    judged_called : judged (tables places objects) c ≡ verdict s c
    unfolding called
    judged_called = judged_once (tables places objects) c ∙ (rw (k.is_sound, is_rule, k.is_ec_lem))

    -- sound tables have their lengths, so that the rules are asked
    fit : sized (tables places objects) ≡ true
    fit = sound_sized (tables places objects) k.is_sound

    rules_so : rules s c ≡ verdict s c
    unfolding judged
    rules_so = rw fit at judged_called

    tables_so : hypercall_tables (tables places objects) c ≡ tables_of (run (effects_of (verdict s c)) s)
    unfolding hypercall_tables after
    tables_so = rw (fit, rules_so)

    pub ran_outcome : (places_after objects_after block : List ℕ) (reply : Reply) →
        Runs verdict c (tables places objects) (tables places_after objects_after) reply → block ≡ block_of c.target (verdict s c) →
        Serves c (tables places objects) (tables places_after objects_after) block reply
    ran_outcome places_after objects_after block reply runs is_Block =
        let is_reply = runs.replies ∙ ap reply_of (sym judged_called) in
        let is_tables = runs.leaves ∙ sym tables_so in
        let same_block = is_Block ∙ ap (block_of c.target) (sym judged_called) in
        λ i. record { reply = is_reply i; tables = is_tables i; block = same_block i }

    -- and where it is no CALL the block stays
    pub kept_outcome : (c.number ≡ CALL → ⊥) → (places_after objects_after : List ℕ) (reply : Reply) →
        Runs verdict c (tables places objects) (tables places_after objects_after) reply →
        Serves c (tables places objects) (tables places_after objects_after) c.target reply
    kept_outcome other places_after objects_after reply runs =
        ran_outcome places_after objects_after c.target reply runs (sym (blocks_stay s c other) ∙ ap (block_of c.target) rules_so)

-- who is admitted on sound tables is an EC, and it is who the call names
module _ (places objects : List ℕ) {number caller : ℕ} (call : Hypercall) (ec : ObjectNumber) (admits : Admits places objects number caller (Ok (call, ec))) where
  admitted : (read : Result Hypercall NotBuilt) (known : Bool) → Reads number read → ok_of call ec ≡ admission read known (record { 0 = caller }) →
      (number_of call ≡ number) × (ec.0 ≡ caller) × (known ≡ true)
  admitted (Ok other) true reads e = (rw (calls_same e) reads, ecs_same e, refl)
    where
      calls_same : {a b : Hypercall} {c d : ObjectNumber} → ok_of a c ≡ ok_of b d → a ≡ b
      calls_same {a} e = ap (call_or a) e

      ecs_same : {a b : Hypercall} {c d : ObjectNumber} → ok_of a c ≡ ok_of b d → c.0 ≡ d.0
      ecs_same e = ap caller_or_0 e
  admitted (Ok other) false reads e = absurd (true≢false (ap is_admitted e))
  admitted (Err none) true reads e = absurd (true≢false (ap is_admitted e))
  admitted (Err none) false reads e = absurd (true≢false (ap is_admitted e))

  facts : (number_of call ≡ number) × (ec.0 ≡ caller) × (is_ec (view places objects) caller ≡ true)
  facts = admitted admits.read (is_ec (view places objects) caller) admits.reads admits.comes_to

  pub admitted_number : number_of call ≡ number
  admitted_number = facts.0

  pub admitted_caller : ec.0 ≡ caller
  admitted_caller = facts.1

  pub admitted_ec : sound (tables places objects) ≡ true → Called places objects ec.0
  admitted_ec t = subst (Called places objects) (sym facts.1) (record { is_sound = t; is_ec_lem = facts.2 })

-- who is not admitted is refused
module _ (places objects : List ℕ) (t : sound (tables places objects) ≡ true) (c : Call) (refusal : Refusal) where
  refusals_same : {other : Refusal} → err_of refusal ≡ err_of other → refusal ≡ other
  refusals_same e = cc

  refused : (read : Result Hypercall NotBuilt) (known : Bool) → Reads c.number read → known ≡ is_ec (view places objects) c.caller →
      err_of refusal ≡ admission read known (record { 0 = c.caller }) → Serves c (tables places objects) (tables places objects) c.target (Err refusal)
  unfolding called
  refused (Ok named) true reads k e = absurd (true≢false (ap is_admitted (sym e)))
  refused (Ok named) false reads k e =
      let is_rule : hypercall c.number ≡ rule (rule_of named) = rw (← reads) (has_rule named) in
      let is_refusal : refusal ≡ BadCaller = refusals_same e in
      rw is_refusal (refused_outcome places objects c BadCaller (judged_once (tables places objects) c ∙ (rw (t, is_rule, sym k))) (λ z. omega arith))
  refused (Err none) true reads k e = let is_refusal : refusal ≡ BadHyp = refusals_same e in rw is_refusal (unbuilt_outcome places objects c t reads)
  refused (Err none) false reads k e = let is_refusal : refusal ≡ BadHyp = refusals_same e in rw is_refusal (unbuilt_outcome places objects c t reads)

  pub not_admitted : Admits places objects c.number c.caller (Err refusal) → Serves c (tables places objects) (tables places objects) c.target (Err refusal)
  not_admitted admits = refused admits.read (is_ec (view places objects) c.caller) admits.reads refl admits.comes_to

-- sound tables have their lengths
pub objects_lengths : (places objects : List ℕ) → sound (tables places objects) ≡ true → length objects ≡ object_table_words
objects_lengths places objects t = objects_long (tables places objects) (sound_sized (tables places objects) t)

-- sound tables stay sound: what a hypercall on them comes to
pub served : (here : Tables) (c : Call) (after : Outcome) → sound here ≡ true → after ≡ outcome here c → (after ≡ outcome here c) × (sound after.tables ≡ true)
unfolding tables_after
served here c after t e = (e, subst (λ (o : Outcome). sound o.tables ≡ true) (sym e) (stays_sound here (hypercalls c) t))
