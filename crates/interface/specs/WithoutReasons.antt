-- What the reasons in received second words change: these words, and nothing else. The rules stand here with any number in the reason's place, and are compared with the rules as
-- they are.
use Rattle.std.specs.Prelude.{ℕ, zero, suc, ◌+◌, ◌-◌, ◌*◌, ◌<◌, ◌≡◌, List, [], ◌∷◌, eqb, length, if◌then◌else◌, Ok}
use Rattle.words.specs.Fields.{bits}
use Rattle.descriptor.specs.Descriptors.{Received}
use Rattle.reply.specs.Replies.{status_of, answer_of, Reply}
use Rattle.reply.specs.declared.Refusal.TheVariants.{Damaged}
use Rattle.interface.specs.Basics.{word}
use Rattle.interface.specs.Places.{State, Tables, sized, shown, tables_of}
use Rattle.interface.specs.Damage.{sound_state}
use Rattle.interface.specs.RangeDescriptors.{why_null}
use Rattle.interface.specs.Effects.{run}
use Rattle.interface.specs.Verdicts.{Call, CALL, Verdict, require◌else◌then◌, reply_of, effects_of, block_of}
use Rattle.interface.specs.Message.{typed_count, Moved, untyped_copied, item_carried}
use Rattle.interface.specs.PortalCalls.{call_delivering}
use Rattle.interface.specs.Rules.{Built, rule, hypercall, called, rules, hypercall_reply, hypercall_tables}
use Rattle.interface.specs.History.{History, hypercalls, told, note_all, tell}
use Rattle.interface.specs.Journal.{Line, done, lines_from}
use Rattle.interface.specs.Deliveries.{item_count, second_word}

-- some items in turn, where a received second word has, in the reason's place, any number that goes by what the receiver is shown
unfoldable pub carried_with : (Received → ℕ) → State → ℕ → ℕ → List ℕ → List ℕ → ℕ → Moved
carried_with beside s sender receiver source target zero = record { effects = []; filled = 0; block = untyped_copied source target }
carried_with beside s sender receiver source target (suc i) =
    item_carried beside s sender receiver source target i (carried_with beside s sender receiver source target i)

-- CALL, the rules of every hypercall, and the verdict on tables of any lengths, with such messages
abbrev pub call_with : (Received → ℕ) → State → Call → Verdict
call_with beside s c =
    call_delivering s c (λ sender receiver. carried_with beside s sender receiver c.source c.target (typed_count (word c.source 0)))

abbrev pub hypercall_with : (Received → ℕ) → ℕ → Built
hypercall_with beside number = if eqb number CALL then rule (call_with beside) else hypercall number

unfoldable pub rules_with : (Received → ℕ) → State → Call → Verdict
rules_with beside s c = require sound_state s else Damaged then called s c (hypercall_with beside c.number)

abbrev pub judged_with : (Received → ℕ) → Tables → Call → Verdict
judged_with beside tables c = require sized tables else Damaged then rules_with beside (shown tables) c

-- the tables after a call, and the lines of hypercalls that are done in turn
abbrev pub tables_with : (Received → ℕ) → Tables → Call → Tables
tables_with beside tables c = if sized tables then tables_of (run (effects_of (rules_with beside (shown tables) c)) (shown tables)) else tables

unfoldable pub lines_with : (Received → ℕ) → Tables → ℕ → List Call → List Line
lines_with beside tables index [] = []
lines_with beside tables index (c ∷ calls) =
    let reply = reply_of (judged_with beside tables c) in
    done index c.number (status_of reply) (answer_of reply) ∷ lines_with beside (tables_with beside tables c) (index + 1) calls

-- a number of a word of the callee's block where a CALL that succeeds gives the second word of an item
pub record IsSecond (c : Call) (reply : Reply) (number : ℕ) : Type 0 where
  pub is_call : c.number ≡ CALL
  pub answer : ℕ
  pub succeeds : reply ≡ Ok answer
  pub item : ℕ
  pub is_item : item < item_count c
  pub there : number ≡ 62 - 2 * item

-- Whatever number stands in the reason's place, every call has the same steps and the same reply, leaves the same tables and adds the same to the history; the lines of a journal's
-- calls are the same; and the callee's block is as long, and has the same words but for the second words of items. With the reasons' numbers in their place these are the rules, and
-- with 0 an item's second word is its kind alone
pub record NothingElseChanges : Type 0 where
  pub with_reasons : (s : State) (c : Call) → rules_with why_null s c ≡ rules s c
  pub without_reasons : (s : State) (c : Call) (answer item : ℕ) → c.number ≡ CALL → reply_of (rules s c) ≡ Ok answer → item < item_count c →
      word (block_of c.target (rules_with (λ received. 0) s c)) (62 - 2 * item) ≡ bits 0 0 (second_word c item)
  pub same_steps : (beside : Received → ℕ) (s : State) (c : Call) → effects_of (rules_with beside s c) ≡ effects_of (rules s c)
  pub same_reply : (beside : Received → ℕ) (tables : Tables) (c : Call) → reply_of (judged_with beside tables c) ≡ hypercall_reply tables c
  pub same_tables : (beside : Received → ℕ) (tables : Tables) (c : Call) → tables_with beside tables c ≡ hypercall_tables tables c
  pub same_history : (beside : Received → ℕ) (h : History) (c : Call) → note_all (effects_of (rules_with beside (told h) c)) h ≡ tell h (hypercalls c)
  pub same_lines : (beside : Received → ℕ) (tables : Tables) (index : ℕ) (calls : List Call) →
      lines_with beside tables index calls ≡ lines_from tables index calls
  pub same_length : (beside : Received → ℕ) (s : State) (c : Call) →
      length (block_of c.target (rules_with beside s c)) ≡ length (block_of c.target (rules s c))
  pub same_words : (beside : Received → ℕ) (s : State) (c : Call) (number : ℕ) → (IsSecond c (reply_of (rules s c)) number → ⊥) →
      word (block_of c.target (rules_with beside s c)) number ≡ word (block_of c.target (rules s c)) number
