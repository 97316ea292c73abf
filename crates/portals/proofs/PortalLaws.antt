-- CALL on tables: what each way out of the code carries, by the values that the code has there.
use Rattle.std.specs.Prelude.{Ok, Err}
use Prim.Native.Nat.{ℕ, ◌<◌}
use mathlib.Core.Path.{◌≡◌, refl, sym, ap, subst, ◌∙◌}
use mathlib.Core.Logic.{◌≢◌}
use mathlib.Core.Bool.{true, false, not}
use mathlib.Core.List.{List}
use lib.Dec.{eqb}
use lib.ListN.{length}
use borrow.Author.Tests.{eq-eqb, ne_eqb}
use Rattle.reply.specs.declared.Refusal.{Refusal}
use Rattle.words.specs.Sizes.{domains, records, block_words}
use Rattle.reply.specs.Replies.{Reply}
use Rattle.reply.specs.declared.Refusal.TheVariants.{ComTim, BadCap, BadPar, BadCpu}
use Rattle.interface.specs.Basics.{word}
use Rattle.interface.specs.Places.{Cap, State, PT, ec_word, domain_word, cpu_word, call_bit, object_place, permitted, cap_at, object_at, place_table, object_table, tables, view, places_in}
use Rattle.interface.specs.Damage.{is_ec}
use Rattle.interface.specs.Effects.{run}
use Rattle.interface.specs.Verdicts.{Call, refuse, deliver, require◌else◌then◌, block_of}
use Rattle.interface.specs.Message.{payload_fits, transfer, Moved}
use Rattle.interface.specs.PortalCalls.{portal_call}
use Rattle.interface.proofs.Sound.SoundFacts.{portal_ec, permitted_kind, ec_small, home, ec_home}
use Rattle.transfer.specs.Turns.{Transferred}
use Rattle.transfer.proofs.UnseenLaws.{transferred_seen}
use Rattle.capabilities.specs.Callers.{Called}
use Rattle.capabilities.proofs.CallerLaws.{called_sound, named_record, objects_kept, refused_runs, granted_runs}
use Rattle.portals.specs.Carrying.{Carries}

-- what the function promises, from the tables and blocks before to a place table, a block and a reply
abbrev pub Answers : List ℕ → List ℕ → List ℕ → List ℕ → ℕ → ℕ → List ℕ → List ℕ → Reply → Type 0
Answers places objects source target caller selector after block reply =
    (c : Call) → c.caller ≡ caller → c.first ≡ selector → c.source ≡ source → c.target ≡ target →
    Carries c (tables places objects) (tables after objects) block reply

-- the place that a call names
abbrev pub named : List ℕ → ℕ → ℕ → ℕ
named objects caller selector = object_place (object_at objects caller domain_word) selector

-- a refusal leaves the tables and the block
refused_carries : {places objects : List ℕ} {caller : ℕ} {c : Call} {target : List ℕ} {refusal : Refusal} → Called places objects caller → c.target ≡ target →
    portal_call (view places objects) c ≡ refuse refusal → Carries c (tables places objects) (tables places objects) target (Err refusal)
refused_carries called is_target e = record { runs = refused_runs called e; gives = rw e (sym is_target) }

module _ {places objects source target : List ℕ} {caller selector : ℕ} (called : Called places objects caller) where
  -- a block of another length
  pub source_other : length source ≢ block_words → Answers places objects source target caller selector places target (Err BadPar)
  unfolding portal_call
  source_other other c is_caller is_selector is_source is_target =
      refused_carries called is_target (rw (is_source, ne_eqb (length source) block_words other))

  pub target_other : length source ≡ block_words → length target ≢ block_words → Answers places objects source target caller selector places target (Err BadPar)
  unfolding portal_call
  target_other long other c is_caller is_selector is_source is_target =
      refused_carries called is_target (rw (is_source, is_target, eq-eqb (length source) block_words long, ne_eqb (length target) block_words other))

-- a call whose blocks have their lengths
pub record Lengths (places objects source target : List ℕ) (caller selector place : ℕ) : Type 0 where
  pub called : Called places objects caller
  pub source_length : length source ≡ block_words
  pub target_length : length target ≡ block_words
  pub is_place : place ≡ named objects caller selector

module _ {places objects source target : List ℕ} {caller selector place : ℕ} (k : Lengths places objects source target caller selector place) where
  -- a place without the capability
  pub not_permitted : permitted (view places objects) place PT call_bit ≡ false → Answers places objects source target caller selector places target (Err BadCap)
  unfolding portal_call
  not_permitted none c is_caller is_selector is_source is_target =
      refused_carries k.called is_target
      (rw (
        is_source,
        is_target,
        is_caller,
        is_selector,
        ← k.is_place,
        eq-eqb (length source) block_words k.source_length,
        eq-eqb (length target) block_words k.target_length,
        none,
      ))

-- a call that may use its portal, whose EC is the callee
pub record Permitted (places objects source target : List ℕ) (caller selector place callee : ℕ) : Type 0 where
  pub lengths : Lengths places objects source target caller selector place
  pub allowed : permitted (view places objects) place PT call_bit ≡ true
  pub is_callee : callee ≡ object_at objects (cap_at places place).resource ec_word

-- what its place names is a record
pub portal_record : {places objects source target : List ℕ} {caller selector place : ℕ} {cap : Cap} → Lengths places objects source target caller selector place →
    permitted (view places objects) place PT call_bit ≡ true → cap ≡ cap_at places place → cap.resource < records
portal_record {selector = selector} k allowed is_cap = named_record k.called selector PT call_bit refl k.is_place allowed is_cap

module _ {places objects source target : List ℕ} {caller selector place callee : ℕ}
    (k : Permitted places objects source target caller selector place callee) where
  abbrev s : State
  s = view places objects

  -- the callee is an EC, of one of the domains
  callee_ec : is_ec s callee ≡ true
  callee_ec =
      rw k.is_callee
      (portal_ec s (called_sound k.lengths.called) (cap_at places place).resource (portal_record k.lengths k.allowed refl)
      (permitted_kind s place PT call_bit k.allowed))

  pub callee_small : callee < records
  callee_small = ec_small s callee callee_ec

  pub receiver_small : object_at objects callee domain_word < domains
  receiver_small = (home s (called_sound k.lengths.called) (object_at objects callee domain_word) (ec_home s (called_sound k.lengths.called) callee callee_ec)).small

  -- what is left of the rule
  module _ (c : Call) where
    abbrev moved : Moved
    moved = transfer s (object_at objects caller domain_word) (object_at objects callee domain_word) source target

    left : c.caller ≡ caller → c.first ≡ selector → c.source ≡ source → c.target ≡ target →
        portal_call s c ≡
        (require not (eqb callee caller) else ComTim then
        require eqb (object_at objects callee cpu_word) (object_at objects caller cpu_word) else BadCpu then
        require payload_fits (word source 0) else BadPar then
        deliver moved.filled moved.effects moved.block)
    unfolding portal_call
    left is_caller is_selector is_source is_target =
        rw (
          is_source,
          is_target,
          is_caller,
          is_selector,
          ← k.lengths.is_place,
          eq-eqb (length source) block_words k.lengths.source_length,
          eq-eqb (length target) block_words k.lengths.target_length,
          k.allowed,
          ← k.is_callee,
        )

  -- the callee is the caller
  pub calls_itself : callee ≡ caller → Answers places objects source target caller selector places target (Err ComTim)
  calls_itself same c is_caller is_selector is_source is_target =
      refused_carries k.lengths.called is_target (left c is_caller is_selector is_source is_target ∙ rw (eq-eqb callee caller same))

  module _ (apart : callee ≢ caller) where
    -- the CPUs differ
    pub other_cpu : object_at objects callee cpu_word ≢ object_at objects caller cpu_word → Answers places objects source target caller selector places target (Err BadCpu)
    other_cpu differ c is_caller is_selector is_source is_target =
        refused_carries k.lengths.called is_target
        (left c is_caller is_selector is_source is_target ∙
        rw (ne_eqb callee caller apart, ne_eqb (object_at objects callee cpu_word) (object_at objects caller cpu_word) differ))

    module _ (one_cpu : object_at objects callee cpu_word ≡ object_at objects caller cpu_word) where
      -- the counts do not fit
      pub too_long : payload_fits (word source 0) ≡ false → Answers places objects source target caller selector places target (Err BadPar)
      too_long long c is_caller is_selector is_source is_target =
          refused_carries k.lengths.called is_target
          (left c is_caller is_selector is_source is_target ∙
          rw (ne_eqb callee caller apart, eq-eqb (object_at objects callee cpu_word) (object_at objects caller cpu_word) one_cpu, long))

      -- the message goes over
      pub carries : {sender receiver count : ℕ} {after block : List ℕ} → payload_fits (word source 0) ≡ true → sender ≡ object_at objects caller domain_word →
          receiver ≡ object_at objects callee domain_word →
          Transferred places after block (transfer (places_in places) sender receiver source target) count →
          Answers places objects source target caller selector after block (Ok count)
      carries {sender} {receiver} {count} {after} {block} fits is_sender is_receiver done c is_caller is_selector is_source is_target =
          let granted : portal_call s c ≡ deliver (moved c).filled (moved c).effects (moved c).block =
          left c is_caller is_selector is_source is_target ∙
          rw (ne_eqb callee caller apart, eq-eqb (object_at objects callee cpu_word) (object_at objects caller cpu_word) one_cpu, fits) in
          let sent = subst (λ (n : ℕ). Transferred places after block (transfer (places_in places) n receiver source target) count) is_sender done in
          let passed =
          subst (λ (n : ℕ). Transferred places after block (transfer (places_in places) (object_at objects caller domain_word) n source target) count) is_receiver sent in
          let (counted, received, state) =
          transferred_seen (object_at objects) places (object_at objects caller domain_word) (object_at objects callee domain_word) source target passed in
          let is_after : after ≡ place_table (run (moved c).effects s) =
          passed.leaves ∙ ap place_table (sym passed.shows) ∙ ap place_table state in
          let is_objects : objects ≡ object_table (run (moved c).effects s) = sym (objects_kept k.lengths.called) ∙ ap object_table state in
          record {
            runs = rw counted (granted_runs k.lengths.called granted is_after is_objects);
            gives = received ∙ sym (ap (block_of c.target) granted);
          }
