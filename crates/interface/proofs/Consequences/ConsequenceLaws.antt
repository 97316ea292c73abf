-- What follows from the rules for tables: sound ones stay sound, DAMAGED is answered exactly where they are not, a refused event changes nothing, and none changes domain 0.
use Prim.Native.Nat.{ℕ, ◌≤◌, ◌<◌}
use mathlib.Core.Path.{◌≡◌, refl, sym, ap, ◌∙◌}
use mathlib.Core.Logic.{◌↔◌}
use mathlib.Core.Bool.{Bool, true, false, true≢false}
use mathlib.Core.List.{List, [], ◌∷◌}
use native.Mathlib.Omega.{arith}
use lib.Dec.{eqb}
use lib.ListN.{get_or-eq_default}
use borrow.Author.Tests.{eqb-false}
use Rattle.reply.specs.declared.Refusal.{Refusal}
use Rattle.words.specs.Sizes.{domain_of, places, records, record_words}
use Rattle.reply.specs.Replies.{status_of, Reply}
use Rattle.reply.specs.declared.Refusal.TheVariants.{BadHyp, Damaged, BadCaller}
use Rattle.std.specs.Prelude.{if◌then◌else◌, Ok, Err}
use Rattle.interface.specs.Basics.{word, put, put_from}
use Rattle.interface.specs.Places.{Cap, State, Tables, parentless, kind_of, greatest_of, sized, cap_at, shown, tables_of}
use Rattle.interface.specs.Boot.{hypervisor, boot}
use Rattle.interface.specs.Damage.{is_ec, sound_state, sound}
use Rattle.interface.specs.Effects.{Effect, give, make, hold, cut, store, fills, handed, act, run}
use Rattle.interface.specs.Verdicts.{Call, CALL, CREATE_PD, CREATE_EC, CREATE_SC, CREATE_PT, CREATE_SM, REVOKE, LOOKUP, SM_CTRL, Verdict, refuse, grant, deliver, require◌else◌then◌, reply_of, effects_of, block_of}
use Rattle.interface.specs.Creations.{Creation, creation, create_pd, create_ec, create_sc, create_pt, create_sm}
use Rattle.interface.specs.Revoke.{revoke}
use Rattle.interface.specs.Lookup.{lookup}
use Rattle.interface.specs.Semaphores.{sm_ctrl}
use Rattle.interface.specs.PortalCalls.{portal_call}
use Rattle.interface.specs.Rules.{Built, rule, not_built, hypercall, called, rules, after, judged, hypercall_reply, hypercall_tables}
use Rattle.interface.specs.Census.{CensusResult, counted, census_of}
use Rattle.interface.specs.History.{Event, hypercalls, counts}
use Rattle.interface.specs.Demand.{tables_after, tables_after_all}
use Rattle.interface.specs.Consequences.{StaysSound, DamagedExactly, RefusedStays, HypervisorStays, BlocksStay}
use Rattle.interface.proofs.Basics.BoolLaws.{cases, one_choice, either_way}
use Rattle.interface.proofs.Basics.PutLaws.{put_other, put_keeps, put_from_past}
use Rattle.interface.proofs.Sound.Soundness.{sound_facts, facts_sound}
use Rattle.interface.proofs.Sound.PlaceFacts.{boot_cap_lem}
use Rattle.interface.proofs.Tables.Steps.{Fits, FitInTurn}
use Rattle.interface.proofs.Sound.RulesFit.{or_else, rules_fit}
use Rattle.interface.proofs.History.CutLaws.{cut_nothing}
use Rattle.interface.proofs.Tables.TableLaws.{cap_at_end, cap_table_back, records_past, words_past, record_table_back, places_long, objects_long, sound_sized, sound_shown, Ends, state_sound}
use Rattle.interface.proofs.History.BootLaws.{boot_sound, boot_past, boot_records, boot_words_lem}
use Rattle.interface.proofs.History.DemandLaws.{after_sound}

-- what tables of the right lengths show ends where they do, and they are the tables of what they show
module _ (tables : Tables) (fit : sized tables ≡ true) where
  pub shown_ends : Ends (shown tables)
  shown_ends =
      record {
        places_end = cap_at_end tables.places (places_long tables fit);
        records_end = records_past tables.objects (objects_long tables fit);
        words_end = words_past tables.objects;
      }

  pub tables_back : tables_of (shown tables) ≡ tables
  tables_back =
      λ i.
      record {
        places = cap_table_back tables.places (places_long tables fit) i;
        objects = record_table_back tables.objects (objects_long tables fit) i;
      }

-- a state with one place or one record changed inside the tables ends where it did
place_ends : (place : ℕ) (cap : Cap) (s : State) → place < places → Ends s → Ends (record { caps = put s.caps place cap; objects = s.objects })
place_ends place cap s small ends =
    record {
      places_end = λ p g. put_other s.caps place cap p (λ e. omega arith) ∙ ends.places_end p g;
      records_end = ends.records_end;
      words_end = ends.words_end;
    }

record_ends : (number : ℕ) (row : ℕ → ℕ) (s : State) → number < records → ((i : ℕ) → record_words ≤ i → row i ≡ 0) → Ends s →
    Ends (record { caps = s.caps; objects = put s.objects number row })
record_ends number row s small row_ends ends =
    record {
      places_end = ends.places_end;
      records_end = λ r i g. rw (put_other s.objects number row r (λ e. omega arith)) (ends.records_end r i g);
      words_end = λ r i g. put_keeps s.objects number row (λ (words : ℕ → ℕ). words i ≡ 0) (row_ends i g) (λ other. ends.words_end other i g) r;
    }

-- steps that fit lead from a state that ends where the tables do to such a state
pub step_ends : (effect : Effect) (s : State) → Fits effect s → Ends s → Ends (act effect s)
unfolding act
step_ends (give destination source mask) s fit ends =
    let cap = handed (s.caps source) source mask in
    either_way (λ (caps : ℕ → Cap). Ends (record { caps = caps; objects = s.objects })) (fills s.caps destination source mask) (put s.caps destination cap) s.caps
    (place_ends destination cap s fit.destination_small ends) ends
step_ends (make number words) s fit ends =
    record_ends number (word words) s fit.is_record (λ i g. get_or-eq_default words 0 (omega (arith, fit.short))) ends
step_ends (hold place number) s fit ends = place_ends place (parentless number (greatest_of (kind_of s number))) s fit.place_small ends
step_ends (cut mask first size self) s fit ends =
    record {
      places_end = λ p g. cut_nothing mask first size self s.caps p (ends.places_end p g);
      records_end = ends.records_end;
      words_end = ends.words_end;
    }
step_ends (store number from words) s fit ends =
    record_ends number (put_from (s.objects number) from words) s fit.is_record
    (λ i g. put_from_past (s.objects number) from words i (omega (arith, fit.ends_inside)) ∙ ends.words_end number i g) ends

pub run_ends : (effects : List Effect) (s : State) → FitInTurn effects s → Ends s → Ends (run effects s)
unfolding run
run_ends [] s fit ends = ends
run_ends (effect ∷ effects) s fit ends = run_ends effects (act effect s) fit.1 (step_ends effect s fit.0 ends)

pub after_ends : (s : State) (c : Call) → Ends s → Ends (after s c)
unfolding after
after_ends s c ends = run_ends (effects_of (rules s c)) s (rules_fit s c) ends

pub stays_sound : StaysSound
unfolding sound tables_after hypercall_tables
stays_sound tables (hypercalls c) h =
    let fit = sound_sized tables h in
    let facts = sound_facts (shown tables) (sound_shown tables h) in
    let next = after (shown tables) c in
    rw fit (state_sound next (after_ends (shown tables) c (shown_ends tables fit)) (facts_sound next (after_sound (shown tables) c facts)))
stays_sound tables (counts place list) h = h

-- places of domain 0 are as at boot in sound tables
hypervisor_as_boot : (tables : Tables) → sound tables ≡ true → (place : ℕ) → domain_of place ≡ hypervisor → cap_at tables.places place ≡ boot.caps place
hypervisor_as_boot tables h place of_hypervisor =
    boot_cap_lem (shown tables) place ((sound_facts (shown tables) (sound_shown tables h)).fixed_places place (omega arith)) of_hypervisor

-- boot's state ends where the tables do
pub boot_ends : Ends boot
boot_ends = record { places_end = boot_past; records_end = boot_records; words_end = boot_words_lem }

-- events in turn leave sound tables sound
all_stay_sound : (events : List Event) (tables : Tables) → sound tables ≡ true → sound (tables_after_all tables events) ≡ true
unfolding tables_after_all
all_stay_sound [] tables h = h
all_stay_sound (event ∷ events) tables h = all_stay_sound events (tables_after tables event) (stays_sound tables event h)

-- a reply of another status is not DAMAGED
other_reply : (reply : Reply) → eqb (status_of reply) (status_of (Err Damaged)) ≡ false → reply ≡ Err Damaged → ⊥
other_reply reply h e = eqb-false (status_of reply) (status_of (Err Damaged)) h (ap status_of e)

-- a verdict whose reply is not DAMAGED: a refusal with another reply, a grant, a delivery, and a choice between two such
record Undamaged (v : Verdict) : Type 0 where
  apart : reply_of v ≡ Err Damaged → ⊥

undamaged_refusal : (refusal : Refusal) → eqb (status_of (Err refusal)) (status_of (Err Damaged)) ≡ false → Undamaged (refuse refusal)
undamaged_refusal refusal h = record { apart = other_reply (Err refusal) h }

undamaged_grant : (answer : ℕ) (effects : List Effect) → Undamaged (grant answer effects)
undamaged_grant answer effects = record { apart = other_reply (Ok answer) refl }

undamaged_delivery : (answer : ℕ) (effects : List Effect) (block : List ℕ) → Undamaged (deliver answer effects block)
undamaged_delivery answer effects block = record { apart = other_reply (Ok answer) refl }

undamaged_choice : (test : Bool) (x y : Verdict) → Undamaged x → Undamaged y → Undamaged (if test then x else y)
undamaged_choice test x y h k = either_way Undamaged test x y h k

ruleset undamaged = (undamaged_choice, undamaged_refusal, undamaged_grant, undamaged_delivery)

-- no rule of a call answers DAMAGED
module _ (s : State) (c : Call) where
  called_rule : (verdict : State → Call → Verdict) → Undamaged (verdict s c) → Undamaged (called s c (rule verdict))
  unfolding called
  called_rule verdict h = undamaged_choice (is_ec s c.caller) (verdict s c) (refuse BadCaller) h (undamaged_refusal BadCaller refl)

  called_none : Undamaged (called s c not_built)
  unfolding called
  called_none = undamaged_refusal BadHyp refl

  called_choice : (test : Bool) (x y : Built) → Undamaged (called s c x) → Undamaged (called s c y) → Undamaged (called s c (if test then x else y))
  called_choice test x y h k = either_way (λ (built : Built). Undamaged (called s c built)) test x y h k

  called_undamaged : Undamaged (called s c (hypercall c.number))
  unfolding hypercall portal_call creation create_pd create_ec create_sc create_pt create_sm revoke lookup sm_ctrl
  called_undamaged = search (called_choice, called_rule, called_none, undamaged) depth 20

-- a call asks first whether the tables are sound
pub judged_once : (tables : Tables) (c : Call) → judged tables c ≡ (require sound tables else Damaged then called (shown tables) c (hypercall c.number))
unfolding judged rules sound
judged_once tables c =
    one_choice (sized tables) (sound_state (shown tables)) (called (shown tables) c (hypercall c.number)) (refuse Damaged)

-- a census of damaged tables
abbrev pub damaged_census : List ℕ → CensusResult
damaged_census list = record { reply = Err Damaged; list = list }

-- of two outcomes, of which the second alone replies DAMAGED, the reply of the chosen one tells the test
reply_tells : {A : Type 0} (replies : A → Reply) (test : Bool) (x y : A) → (replies x ≡ Err Damaged → ⊥) → replies y ≡ Err Damaged →
    (replies (if test then x else y) ≡ Err Damaged) ↔ (test ≡ false)
reply_tells replies true x y apart e = (λ d. absurd (apart d), λ f. absurd (true≢false f))
reply_tells replies false x y apart e = (λ d. refl, λ f. e)

-- a census on a sound state: its reply is not DAMAGED, and the list stays unless it succeeds
record Outcome (list : List ℕ) (result : CensusResult) : Type 0 where
  apart : result.reply ≡ Err Damaged → ⊥
  stays : (status_of result.reply ≡ 0 → ⊥) → result.list ≡ list

outcome_refusal : (list : List ℕ) (reply : Reply) → eqb (status_of reply) (status_of (Err Damaged)) ≡ false → Outcome list (record { reply = reply; list = list })
outcome_refusal list reply h = record { apart = other_reply reply h; stays = λ n. refl }

outcome_success : (list other : List ℕ) (answer : ℕ) → Outcome list (record { reply = Ok answer; list = other })
outcome_success list other answer = record { apart = other_reply (Ok answer) refl; stays = λ n. absurd (n refl) }

outcome_choice : (list : List ℕ) (test : Bool) (x y : CensusResult) → Outcome list x → Outcome list y → Outcome list (if test then x else y)
outcome_choice list test x y h k = either_way (Outcome list) test x y h k

counted_outcome : (s : State) (place : ℕ) (list : List ℕ) → Outcome list (counted s place list)
unfolding counted
counted_outcome s place list = search (outcome_choice, outcome_refusal, outcome_success)

pub damaged_exactly : DamagedExactly
unfolding census_of
damaged_exactly =
    record {
      hypercall_damaged =
          λ tables c.
          let verdict = called (shown tables) c (hypercall c.number) in
          rw (judged_once tables c)
          (reply_tells reply_of (sound tables) verdict (refuse Damaged) (called_undamaged (shown tables) c).apart refl);
      census_damaged =
          λ tables place list.
          (reply_tells (λ (result : CensusResult). result.reply) (sound tables) (counted (shown tables) place list) (damaged_census list)
          (counted_outcome (shown tables) place list).apart refl);
      never_from_boot = λ events. all_stay_sound events (tables_of boot) (state_sound boot boot_ends boot_sound);
    }

-- a verdict that does not succeed takes no steps and leaves the callee's block
pub refused_nothing : (target : List ℕ) (v : Verdict) → (status_of (reply_of v) ≡ 0 → ⊥) → (effects_of v ≡ []) × (block_of target v ≡ target)
refused_nothing target (refuse reply) n = (refl, refl)
refused_nothing target (grant answer effects) n = absurd (n refl)
refused_nothing target (deliver answer effects block) n = absurd (n refl)

-- a refused call leaves the tables, whatever their lengths
tables_stay : (tables : Tables) (c : Call) → (status_of (hypercall_reply tables c) ≡ 0 → ⊥) → hypercall_tables tables c ≡ tables
unfolding judged hypercall_tables after run
tables_stay tables c n =
    cases (sized tables)
    (λ (t : sized tables ≡ true).
    let none : effects_of (rules (shown tables) c) ≡ [] = (refused_nothing c.target (rules (shown tables) c) (rw t at n)).0 in
    rw (t, none) (tables_back tables t))
    (λ (f : sized tables ≡ false). rw f)

pub refused_stays : RefusedStays
unfolding census_of
refused_stays =
    record {
      hypercall_stays = λ tables c n. (tables_stay tables c n, (refused_nothing c.target (judged tables c) n).1);
      census_stays =
          λ tables place list.
          (either_way (λ (result : CensusResult). (status_of result.reply ≡ 0 → ⊥) → result.list ≡ list) (sound tables)
          (counted (shown tables) place list) (damaged_census list) (counted_outcome (shown tables) place list).stays (λ n. refl));
    }

-- sound tables stay sound, so domain 0's places are as at boot before and after; damaged tables stay as they are
pub hypervisor_stays : HypervisorStays
unfolding tables_after
hypervisor_stays tables (hypercalls c) place of_hypervisor =
    cases (sound tables)
    (λ (t : sound tables ≡ true).
    hypervisor_as_boot (hypercall_tables tables c) (stays_sound tables (hypercalls c) t) place of_hypervisor ∙ sym (hypervisor_as_boot tables t place of_hypervisor))
    (λ (f : sound tables ≡ false).
    let refused : status_of (hypercall_reply tables c) ≡ 0 → ⊥ = rw ((damaged_exactly.hypercall_damaged tables c).1 f) (λ e. omega arith) in
    ap (λ (t : Tables). cap_at t.places place) (tables_stay tables c refused))
hypervisor_stays tables (counts place list) other of_hypervisor = refl

-- a verdict that leaves the callee's block: a refusal, a grant, and a choice between two such
record LeavesBlock (target : List ℕ) (v : Verdict) : Type 0 where
  same_block : block_of target v ≡ target

refusal_leaves : (target : List ℕ) (refusal : Refusal) → LeavesBlock target (refuse refusal)
refusal_leaves target reply = record { same_block = refl }

grant_leaves : (target : List ℕ) (answer : ℕ) (effects : List Effect) → LeavesBlock target (grant answer effects)
grant_leaves target answer effects = record { same_block = refl }

choice_leaves : (target : List ℕ) (test : Bool) (x y : Verdict) → LeavesBlock target x → LeavesBlock target y → LeavesBlock target (if test then x else y)
choice_leaves target test x y h k = either_way (LeavesBlock target) test x y h k

ruleset leaves_block = (choice_leaves, refusal_leaves, grant_leaves)

-- no rule of a call but CALL's changes the callee's block
module _ (s : State) (c : Call) where
  creation_leaves : (new : Creation) → LeavesBlock c.target (creation s c new)
  unfolding creation
  creation_leaves new = search (leaves_block) depth 20

  revoke_leaves : LeavesBlock c.target (revoke s c)
  unfolding revoke
  revoke_leaves = search (leaves_block) depth 20

  lookup_leaves : LeavesBlock c.target (lookup s c)
  unfolding lookup
  lookup_leaves = search (leaves_block) depth 20

  semaphore_leaves : LeavesBlock c.target (sm_ctrl s c)
  unfolding sm_ctrl
  semaphore_leaves = search (leaves_block) depth 20

  none_leaves : LeavesBlock c.target (called s c not_built)
  unfolding called
  none_leaves = refusal_leaves c.target BadHyp

  -- one number's rule that leaves the block, and what the other numbers stand for
  leaves_else : (number : ℕ) (verdict : State → Call → Verdict) (others : Built) → (c.number ≡ number → LeavesBlock c.target (verdict s c)) →
      LeavesBlock c.target (called s c others) → LeavesBlock c.target (called s c (if eqb c.number number then rule verdict else others))
  leaves_else number verdict others f = or_else (LeavesBlock c.target) s c (refusal_leaves c.target) number verdict others (λ e n. f n)

  called_leaves : (c.number ≡ CALL → ⊥) → LeavesBlock c.target (called s c (hypercall c.number))
  unfolding hypercall create_pd create_ec create_sc create_pt create_sm
  called_leaves other =
      leaves_else CALL portal_call _ (λ n. absurd (other n))
      (leaves_else CREATE_PD create_pd _ (λ n. creation_leaves _)
      (leaves_else CREATE_EC create_ec _ (λ n. creation_leaves _)
      (leaves_else CREATE_SC create_sc _ (λ n. creation_leaves _)
      (leaves_else CREATE_PT create_pt _ (λ n. creation_leaves _)
      (leaves_else CREATE_SM create_sm _ (λ n. creation_leaves _)
      (leaves_else REVOKE revoke _ (λ n. revoke_leaves)
      (leaves_else LOOKUP lookup _ (λ n. lookup_leaves)
      (leaves_else SM_CTRL sm_ctrl not_built (λ n. semaphore_leaves)
      none_leaves))))))))

pub blocks_stay : BlocksStay
unfolding rules
blocks_stay s c other =
    (choice_leaves c.target (sound_state s) (called s c (hypercall c.number)) (refuse Damaged) (called_leaves s c other) (refusal_leaves c.target Damaged)).same_block
