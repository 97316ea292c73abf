-- The reasons in received second words change nothing else: by induction over the items, and then check by check.
use Rattle.reply.specs.declared.Refusal.{Refusal}
use Rattle.std.specs.Prelude.{Ok}
use Prim.Native.Nat.{ℕ, zero, suc, ◌+◌, ◌≤◌, ◌<◌}
use mathlib.Core.Path.{◌≡◌, refl, sym, ap, ◌∙◌}
use mathlib.Core.Bool.{Bool, true, false, not, ◌&&◌, true≢false}
use mathlib.Core.List.{List, [], ◌∷◌}
use mathlib.Core.Logic.{◌≢◌}
use native.Mathlib.Decide.{le_ind}
use native.Mathlib.Nat.{add-zero}
use native.Mathlib.Omega.{arith}
use lib.Dec.{eqb, ltb}
use lib.ListN.{length, set, length-set}
use lib.Seq.{set_out, get_or-set_same, get_or-set_other}
use borrow.Author.Tests.{eqb-true, eqb-false, ltb-true, ltb-false}
use Rattle.words.specs.Fields.{bits}
use Rattle.words.specs.Sizes.{block_words}
use Rattle.descriptor.specs.Descriptors.{Received}
use Rattle.reply.specs.Replies.{Reply}
use Rattle.reply.specs.declared.Refusal.TheVariants.{ComTim, BadCap, BadPar, BadCpu, Damaged, BadCaller}
use Rattle.interface.specs.Basics.{word}
use Rattle.interface.specs.Places.{State, Tables, PT, ec_word, cpu_word, call_bit, object_place, permitted, object_in, sized, shown}
use Rattle.interface.specs.Damage.{sound_state, is_ec}
use Rattle.interface.specs.RangeDescriptors.{why_null}
use Rattle.interface.specs.Effects.{Effect, run}
use Rattle.interface.specs.Verdicts.{Call, CALL, Verdict, require◌else◌then◌, caller_domain, reply_of, effects_of, block_of}
use Rattle.interface.specs.Message.{payload_fits, typed_count, descriptor_at, second_at, delegate_bit, received_word, Moved, item_of, untyped_copied, carried}
use Rattle.interface.specs.PortalCalls.{portal_call}
use Rattle.interface.specs.Rules.{hypercall, called, rules, after, judged, hypercall_tables}
use Rattle.interface.specs.History.{tell, told, note_all}
use Rattle.interface.specs.Journal.{lines_from}
use Rattle.interface.specs.Consequences.{callee_domain}
use Rattle.interface.specs.Deliveries.{item_count, second_word}
use Rattle.interface.specs.WithoutReasons.{carried_with, call_with, hypercall_with, rules_with, judged_with, tables_with, lines_with, IsSecond, NothingElseChanges}
use Rattle.interface.proofs.Basics.BoolLaws.{cases}
use Rattle.interface.proofs.Tables.VerdictLaws.{refuses}
use Rattle.interface.proofs.Deliveries.DeliveryLaws.{call_granted, call_delivers}
use Rattle.interface.proofs.Deliveries.ReceivedLaws.{most_items, second_off_descriptor, seconds_apart, all_copied, items_few}

-- a word that two lists share, they share after a store of one number at one index
same_set : (a b : List ℕ) (at x number : ℕ) → length a ≡ length b → word a number ≡ word b number → word (set a at x) number ≡ word (set b at x) number
same_set a b at x number long e =
    cases (eqb number at)
    (λ (t : eqb number at ≡ true).
    let here = eqb-true number at t in
    cases (ltb at (length a))
    (λ (l : ltb at (length a) ≡ true).
    let in_a = ltb-true at (length a) l in
    rw here (get_or-set_same a at x 0 in_a ∙ sym (get_or-set_same b at x 0 (omega arith))))
    (λ (g : ltb at (length a) ≡ false).
    let past = ltb-false at (length a) g in
    rw (set_out a at x (omega arith), set_out b at x (omega arith)) e))
    (λ (f : eqb number at ≡ false).
    let off : number ≢ at = eqb-false number at f in
    get_or-set_other a at number x 0 off ∙ e ∙ sym (get_or-set_other b at number x 0 off))

-- and after a store elsewhere of any two numbers
two_set : (a b : List ℕ) (at x second y z number : ℕ) → length a ≡ length b → number ≢ second → word a number ≡ word b number →
    word (set (set a at x) second y) number ≡ word (set (set b at x) second z) number
two_set a b at x second y z number long off e =
    get_or-set_other (set a at x) second number y 0 off ∙ same_set a b at x number long e ∙ sym (get_or-set_other (set b at x) second number z 0 off)

-- The items.

module _ (s : State) (sender receiver : ℕ) (source target : List ℕ) where
  module _ (beside : Received → ℕ) where
    -- what some items come to, with any number in the reason's place and as they are
    abbrev other : ℕ → Moved
    other n = carried_with beside s sender receiver source target n

    abbrev own : ℕ → Moved
    own n = carried s sender receiver source target n

    record SameMoved (n : ℕ) : Type 0 where
      steps : (other n).effects ≡ (own n).effects
      count : (other n).filled ≡ (own n).filled
      long : length (other n).block ≡ length (own n).block
      words : (number : ℕ) → ((item : ℕ) → item < n → number ≢ second_at item) → word (other n).block number ≡ word (own n).block number

    same_moved : (n : ℕ) → SameMoved n
    unfolding carried_with carried
    same_moved zero = record { steps = refl; count = refl; long = refl; words = λ number off. refl }
    same_moved (suc i) =
        let before = same_moved i in
        let shown = received_word (item_of (run (own i).effects s) sender receiver source target i).received in
        record {
          steps = rw before.steps;
          count = rw (before.steps, before.count);
          long = simp length-set before.long;
          words =
              λ number off.
              rw before.steps
              (two_set (other i).block (own i).block (descriptor_at i) shown (second_at i) _ _ number before.long (off i (omega arith))
              (before.words number (λ item l. off item (omega arith))));
        }

  -- with the reasons' numbers it is the message
  is_carried : (n : ℕ) → carried_with why_null s sender receiver source target n ≡ carried s sender receiver source target n
  unfolding carried_with carried
  is_carried zero = refl
  is_carried (suc i) = rw (is_carried i)

  -- and with 0 an item's second word is its kind, which stays once it is set
  module _ (full : length (untyped_copied source target) ≡ block_words) where
    abbrev plain : ℕ → List ℕ
    plain n = (carried_with (λ received. 0) s sender receiver source target n).block

    plain_long : (n : ℕ) → length (plain n) ≡ block_words
    unfolding carried_with
    plain_long zero = full
    plain_long (suc i) = simp length-set (plain_long i)

    plain_second : (item n : ℕ) → item < n → n ≤ most_items → word (plain n) (second_at item) ≡ delegate_bit (word source (second_at item))
    unfolding carried_with
    plain_second item n l few =
        le_ind (λ (m : ℕ). m ≤ most_items → word (plain m) (second_at item) ≡ delegate_bit (word source (second_at item)))
        (λ few_now.
        let now = run (carried_with (λ received. 0) s sender receiver source target item).effects s in
        let old = set (plain item) (descriptor_at item) (received_word (item_of now sender receiver source target item).received) in
        let long : length old ≡ block_words = simp length-set (plain_long item) in
        let in_old : second_at item < length old = rw long (omega arith) in
        get_or-set_same old (second_at item) (delegate_bit (word source (second_at item)) + 0) 0 in_old ∙ add-zero (delegate_bit (word source (second_at item))))
        (λ m b ih few_now.
        let soon : m < most_items = few_now in
        let off_descriptor = second_off_descriptor item m b soon in
        let off_second = seconds_apart item m b soon in
        rw (get_or-set_other, get_or-set_other) (ih (omega arith)))
        n l few

-- The verdicts.

module _ (c : Call) where
  -- two verdicts with one reply, the same steps, and blocks that may differ in the second words of items; a message that is delivered has a block that is known
  record Same (block : List ℕ) (a b : Verdict) : Type 0 where
    reply : reply_of a ≡ reply_of b
    steps : effects_of a ≡ effects_of b
    long : length (block_of c.target a) ≡ length (block_of c.target b)
    words : (number : ℕ) → (IsSecond c (reply_of b) number → ⊥) → word (block_of c.target a) number ≡ word (block_of c.target b) number
    known : c.number ≡ CALL → refuses b ≡ false → block_of c.target a ≡ block

  module _ {block : List ℕ} where
    same_required : (test : Bool) (refusal : Refusal) {a b : Verdict} → Same block a b → Same block (require test else refusal then a) (require test else refusal then b)
    same_required true reply same = same
    same_required false reply same =
        record { reply = refl; steps = refl; long = refl; words = λ number off. refl; known = λ n granted. absurd (true≢false granted) }

  module _ (beside : Received → ℕ) (s : State) where
    -- the block of a message that is delivered
    abbrev delivered : List ℕ
    delivered = (carried_with beside s (caller_domain s c) (callee_domain s c) c.source c.target (item_count c)).block

    same_call : c.number ≡ CALL → Same delivered (call_with beside s c) (portal_call s c)
    unfolding portal_call
    same_call n =
        let portal = object_place (caller_domain s c) c.first in
        let callee = s.objects (object_in s portal) ec_word in
        let moved = same_moved s (caller_domain s c) (callee_domain s c) c.source c.target beside (item_count c) in
        same_required (eqb (length c.source) block_words && eqb (length c.target) block_words) BadPar
        (same_required (permitted s portal PT call_bit) BadCap
        (same_required (not (eqb callee c.caller)) ComTim
        (same_required (eqb (s.objects callee cpu_word) (s.objects c.caller cpu_word)) BadCpu
        (same_required (payload_fits (word c.source 0)) BadPar
        (record {
          reply = ap Ok moved.count;
          steps = moved.steps;
          long = moved.long;
          words =
              λ number off.
              moved.words number
              (λ item l e. off (record { is_call = n; answer = _; succeeds = refl; item = item; is_item = l; there = e }));
          known = λ is_call granted. refl;
        })))))

    same_called : Same delivered (called s c (hypercall_with beside c.number)) (called s c (hypercall c.number))
    unfolding called hypercall
    same_called =
        cases (eqb c.number CALL)
        (λ (t : eqb c.number CALL ≡ true). rw t (same_required (is_ec s c.caller) BadCaller (same_call (eqb-true c.number CALL t))))
        (λ (f : eqb c.number CALL ≡ false).
        rw f
        (record {
          reply = refl;
          steps = refl;
          long = refl;
          words = λ number off. refl;
          known = λ is_call granted. absurd (eqb-false c.number CALL f is_call);
        }))

    same_rules : Same delivered (rules_with beside s c) (rules s c)
    unfolding rules_with rules
    same_rules = same_required (sound_state s) Damaged same_called

module _ (s : State) (c : Call) where
  is_call : call_with why_null s c ≡ portal_call s c
  unfolding portal_call
  is_call = rw (is_carried s (caller_domain s c) (callee_domain s c) c.source c.target (typed_count (word c.source 0)))

  is_rules : rules_with why_null s c ≡ rules s c
  unfolding rules_with rules called hypercall
  is_rules = cases (eqb c.number CALL) (λ (t : eqb c.number CALL ≡ true). rw (t, is_call)) (λ (f : eqb c.number CALL ≡ false). rw f)

  kinds_alone : (answer item : ℕ) → c.number ≡ CALL → reply_of (rules s c) ≡ Ok answer → item < item_count c →
      word (block_of c.target (rules_with (λ received. 0) s c)) (second_at item) ≡ bits 0 0 (second_word c item)
  kinds_alone answer item n succeeds l =
      let (effects, block, h) = call_delivers s c answer n succeeds in
      let granted = call_granted s c answer effects block n h in
      let is_Block = (same_rules c (λ received. 0) s).known n (ap refuses h) in
      rw is_Block
      (plain_second s (caller_domain s c) (callee_domain s c) c.source c.target (all_copied s c answer block granted) item (item_count c) l
      (items_few s c answer block granted))

-- The tables and the lines.

module _ (beside : Received → ℕ) where
  same_reply : (tables : Tables) (c : Call) → reply_of (judged_with beside tables c) ≡ reply_of (judged tables c)
  unfolding judged
  same_reply tables c = (same_required c (sized tables) Damaged (same_rules c beside (shown tables))).reply

  same_tables : (tables : Tables) (c : Call) → tables_with beside tables c ≡ hypercall_tables tables c
  unfolding hypercall_tables after
  same_tables tables c = rw (same_rules c beside (shown tables)).steps

  same_lines : (tables : Tables) (index : ℕ) (calls : List Call) → lines_with beside tables index calls ≡ lines_from tables index calls
  unfolding lines_with lines_from
  same_lines tables index [] = refl
  same_lines tables index (c ∷ calls) = rw (same_reply tables c, same_tables tables c, same_lines (hypercall_tables tables c) (index + 1) calls)

pub nothing_else_changes : NothingElseChanges
unfolding tell
nothing_else_changes =
    record {
      with_reasons = is_rules;
      without_reasons = kinds_alone;
      same_steps = λ beside s c. (same_rules c beside s).steps;
      same_reply = same_reply;
      same_tables = same_tables;
      same_history = λ beside h c. ap (λ (effects : List Effect). note_all effects h) (same_rules c beside (told h)).steps;
      same_lines = same_lines;
      same_length = λ beside s c. (same_rules c beside s).long;
      same_words = λ beside s c. (same_rules c beside s).words;
    }
