-- Some typed items in turn, where the receiver's words above the untyped ones are a list by itself.
use Rattle.std.specs.Prelude.{ℕ, zero, suc, ◌+◌, ◌-◌, ◌*◌, ◌≤◌, ◌<◌, ◌≡◌, List, [], ◌++◌, length, set}
use Rattle.words.specs.Sizes.{domains, block_words}
use Rattle.descriptor.specs.declared.Reading.{Reading}
use Rattle.descriptor.specs.Descriptors.{ReadProper}
use Rattle.interface.specs.Basics.{word}
use Rattle.interface.specs.Places.{State, cap_at, cap_table, places_in}
use Rattle.interface.specs.RangeDescriptors.{why_null}
use Rattle.interface.specs.Effects.{run, filled}
use Rattle.interface.specs.Message.{payload_words, item_words, descriptor_at, second_at, received_word, received_second, Moved}
use Rattle.delegation.specs.Delegating.{LiveLinks}
use Rattle.transfer.specs.Typed.{item_by}

-- what the items need of the blocks, the windows and the domains
pub record Ready (sender receiver : ℕ) (source upper : List ℕ) (typed : ℕ) (translating delegating : Reading) : Type 0 where
  pub sender_small : sender < domains
  pub receiver_small : receiver < domains
  pub source_length : length source ≡ block_words
  pub room : item_words * typed ≤ length upper
  pub upper_length : length upper ≤ payload_words
  pub translating_proper : ReadProper translating
  pub delegating_proper : ReadProper delegating

-- what they come to: each is on the tables that those before it left, and its words are received from the upper words' end downward
unfoldable pub moved_by : State → ℕ → ℕ → List ℕ → Reading → Reading → List ℕ → ℕ → Moved
moved_by s sender receiver source translating delegating upper zero = record { effects = []; filled = 0; block = upper }
moved_by s sender receiver source translating delegating upper (suc i) =
    let before = moved_by s sender receiver source translating delegating upper i in
    let now = run before.effects s in
    let item = item_by now sender receiver (word source (descriptor_at i)) (word source (second_at i)) translating delegating in
    record {
      effects = before.effects ++ item.effects;
      filled = before.filled + filled item.effects now;
      block =
          set (set before.block (length upper - 1 - item_words * i) (received_word item.received)) (length upper - 2 - item_words * i)
          (received_second (word source (second_at i)) (why_null item.received));
    }

-- a transfer that is done: the table it leaves, what it shows, the places filled, the words received, and that the links are live still
pub record Transferred (before after received : List ℕ) (moved : Moved) (count : ℕ) : Type 0 where
  pub leaves : after ≡ cap_table (run moved.effects (places_in before)).caps
  pub shows : places_in after ≡ run moved.effects (places_in before)
  pub fills : count ≡ moved.filled
  pub receives : received ≡ moved.block
  pub live_links : LiveLinks (cap_at after)
