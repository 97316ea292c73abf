-- Laws of typed items in turn: one more of them, and that they are the definition's, whose receiver's block is the lower words and the upper ones.
use Prim.Native.Nat.{ℕ, zero, suc, ◌+◌, ◌-◌, ◌*◌, ◌≤◌, ◌<◌}
use mathlib.Core.Path.{◌≡◌, refl, sym, ap, subst, ◌∙◌}
use mathlib.Core.List.{List, [], ◌∷◌, ◌++◌, append-nil}
use native.Mathlib.Nat.{le_refl}
use native.Mathlib.Numerals.{add-one}
use native.Mathlib.Omega.{arith}
use lib.ListN.{length, take, drop, set, length-set, length-drop, take-append-drop}
use lib.Seq.{take_all, drop-length, length-take-le}
use borrow.Rule.Slice.PartMut.{put_mid, Post-is}
use Rattle.words.specs.Sizes.{object, selectors, domains, block_words}
use Rattle.descriptor.specs.declared.Reading.{Reading}
use Rattle.descriptor.proofs.DescriptorLaws.{good_proper}
use Rattle.interface.specs.Basics.{word}
use Rattle.interface.specs.Places.{State, cap_at, cap_table, places_in}
use Rattle.interface.specs.RangeDescriptors.{reading, why_null}
use Rattle.interface.specs.Effects.{run, filled}
use Rattle.interface.specs.Message.{head_words, untyped_count, typed_count, translate_window, delegate_window, item_words, descriptor_at, second_at, received_word, received_second, Item, Moved, item_of, untyped_copied, carried, transfer}
use Rattle.interface.proofs.Tables.TurnLaws.{run_append}
use Rattle.interface.proofs.Tables.TableLaws.{cap_table_back}
use Rattle.interface.proofs.Deliveries.ReceivedLaws.{copied_long}
use Rattle.places.specs.Table.{Sized}
use Rattle.places.proofs.CapTableLaws.{length_cap_table}
use Rattle.blocks.specs.Fitting.{Blocks}
use Rattle.blocks.proofs.BlockLaws.{counts_fit}
use Rattle.delegation.specs.Delegating.{LiveLinks}
use Rattle.transfer.specs.declared.Outcome.{Outcome}
use Rattle.transfer.specs.Typed.{item_by, Done}
use Rattle.transfer.specs.Turns.{Ready, moved_by, Transferred}

-- where the items stand: the table, the count and the upper words after those before the present one
pub record Moving (start : List ℕ) (sender receiver : ℕ) (source upper₀ : List ℕ) (typed : ℕ) (translating delegating : Reading) (table upper : List ℕ) (count i : ℕ) : Type 0 where
  pub ready : Ready sender receiver source upper₀ typed translating delegating
  pub sized : Sized table
  pub live_links : LiveLinks (cap_at table)
  pub inside : i ≤ typed
  pub few : count ≤ selectors object * i
  pub same_length : length upper ≡ length upper₀
  pub shows : places_in table ≡ run (moved_by (places_in start) sender receiver source translating delegating upper₀ i).effects (places_in start)
  pub fills : count ≡ (moved_by (places_in start) sender receiver source translating delegating upper₀ i).filled
  pub receives : upper ≡ (moved_by (places_in start) sender receiver source translating delegating upper₀ i).block

pub moving_begins : {start : List ℕ} {sender receiver : ℕ} {source upper : List ℕ} {typed : ℕ} (translating delegating : Reading) → Sized start → LiveLinks (cap_at start) →
    Ready sender receiver source upper typed translating delegating → Moving start sender receiver source upper typed translating delegating start upper 0 0
unfolding moved_by run
moving_begins translating delegating sized links ready =
    record {
      ready = ready;
      sized = sized;
      live_links = links;
      inside = omega arith;
      few = omega arith;
      same_length = refl;
      shows = refl;
      fills = refl;
      receives = refl;
    }

module _ {start : List ℕ} {sender receiver : ℕ} {source upper₀ : List ℕ} {typed : ℕ} {translating delegating : Reading} {table upper : List ℕ} {count i : ℕ}
    (g : Moving start sender receiver source upper₀ typed translating delegating table upper count i) where
  abbrev so_far : Moved
  so_far = moved_by (places_in start) sender receiver source translating delegating upper₀ i

  abbrev present : State → Item
  present s = item_by s sender receiver (word source (descriptor_at i)) (word source (second_at i)) translating delegating

  -- one more item, whose words are stored
  pub moving_on : {after : List ℕ} {outcome : Outcome} {first second : ℕ} → i < typed → Done table after (present (places_in table)) outcome →
      first ≡ received_word outcome.received → second ≡ received_second (word source (second_at i)) (why_null outcome.received) →
      Moving start sender receiver source upper₀ typed translating delegating after
      (set (set upper (length upper₀ - 1 - item_words * i) first) (length upper₀ - 2 - item_words * i) second) (count + outcome.filled) (i + 1)
  unfolding moved_by
  moving_on {after} {outcome} l done is_first is_second =
      let now = run so_far.effects (places_in start) in
      let there : Done table after (present now) outcome = subst (λ (s : State). Done table after (present s) outcome) g.shows done in
      let taken = there.taken in
      rw (add-one i)
      (record {
        ready = g.ready;
        sized = rw taken.leaves (length_cap_table (run (present now).effects (places_in table)).caps);
        live_links = taken.links_stay g.live_links;
        inside = omega arith;
        few = omega (arith, there.few, g.few);
        same_length = simp length-set g.same_length;
        shows =
            taken.shows ∙ ap (run (present now).effects) g.shows ∙
            sym (run_append so_far.effects (present now).effects (places_in start));
        fills = rw (g.fills, taken.fills) (ap (λ (s : State). so_far.filled + filled (present now).effects s) g.shows);
        receives = rw (g.receives, is_first, is_second, there.shown);
      })

  -- once every item is done
  pub moving_ends : typed ≤ i → Transferred start table upper (moved_by (places_in start) sender receiver source translating delegating upper₀ typed) count
  moving_ends l =
      let all : i ≡ typed = omega (arith, g.inside) in
      rw (sym all)
      (record {
        leaves = sym (cap_table_back table g.sized) ∙ ap (λ (s : State). cap_table s.caps) g.shows;
        shows = g.shows;
        fills = g.fills;
        receives = g.receives;
        live_links = g.live_links;
      })

-- a store past a list is one in the list that follows it
set_after : (xs ys : List ℕ) (i n a : ℕ) → n ≡ length xs + i → set (xs ++ ys) n a ≡ xs ++ set ys i a
set_after [] ys i n a e = let same : n ≡ i = omega arith in rw same
set_after (x ∷ xs) ys i zero a e = absurd (omega arith)
set_after (x ∷ xs) ys i (suc n) a e = ap (λ (list : List ℕ). x ∷ list) (set_after xs ys i n a (omega arith))

-- the whole message: the block after the items is the words below them and what they make of the upper ones
module _ (s : State) (sender receiver : ℕ) (source target : List ℕ) (below : ℕ) (full : length (untyped_copied source target) ≡ block_words) where
  abbrev copied : List ℕ
  copied = untyped_copied source target

  abbrev moved : ℕ → Moved
  moved n = moved_by s sender receiver source (reading (word target translate_window)) (reading (word target delegate_window)) (drop below copied) n

  abbrev whole : ℕ → Moved
  whole n = record { effects = (moved n).effects; filled = (moved n).filled; block = take below copied ++ (moved n).block }

  module _ (room : below ≤ block_words) where
    lower_length : length (take below copied) ≡ below
    lower_length = length-take-le below copied (rw full room)

    upper_length : length (drop below copied) ≡ block_words - below
    upper_length = rw (length-drop below copied, full)

    carried_moved : (n : ℕ) → below + item_words * n ≤ block_words → carried s sender receiver source target n ≡ whole n
    unfolding carried moved_by item_of
    carried_moved zero l = rw (take-append-drop below copied)
    carried_moved (suc i) l =
        let so_far = moved i in
        let item = item_of (run so_far.effects s) sender receiver source target i in
        let first = received_word item.received in
        let second = received_second (word source (second_at i)) (why_null item.received) in
        let high = block_words - below - 1 - item_words * i in
        let low = block_words - below - 2 - item_words * i in
        rw (
          carried_moved i (omega arith),
          set_after (take below copied) so_far.block high (descriptor_at i) first (rw lower_length (omega arith)),
          set_after (take below copied) (set so_far.block high first) low (second_at i) second (rw lower_length (omega arith)),
          upper_length,
        )

-- the words that a message copies leave the length, and the items find room above them
module _ {source target block : List ℕ} {untyped typed : ℕ} (b : Blocks source target) (is_Block : block ≡ untyped_copied source target)
    (u : untyped ≡ untyped_count (word source 0)) (t : typed ≡ typed_count (word source 0)) where
  abbrev low : ℕ
  low = head_words + untyped

  counts : low + item_words * typed ≤ block_words
  counts = rw (u, t) (omega (arith, counts_fit (word source 0) b.fits))

  copied_full : length (untyped_copied source target) ≡ block_words
  copied_full = copied_long source target b.source_length b.target_length (omega (arith, counts_fit (word source 0) b.fits))

  block_full : length block ≡ block_words
  block_full = rw is_Block copied_full

  pub upper_begins : low ≤ length block
  upper_begins = omega (arith, counts, block_full)

  -- the upper words are all that follow the lower ones
  uppers : take (length block - low) (drop low block) ≡ drop low block
  uppers = take_all (length block - low) (drop low block) (rw (length-drop low block) (le_refl (length block - low)))

  pub items_ready : {sender receiver : ℕ} {translating delegating : Reading} → sender < domains → receiver < domains →
      translating ≡ reading (word target translate_window) → delegating ≡ reading (word target delegate_window) →
      Ready sender receiver source (take (length block - low) (drop low block)) typed translating delegating
  items_ready s r is_translating is_delegating =
      let many : length (drop low block) ≡ block_words - low = rw (length-drop low block, block_full) in
      record {
        sender_small = s;
        receiver_small = r;
        source_length = b.source_length;
        room = rw (uppers, many) (omega (arith, counts));
        upper_length = rw (uppers, many) (omega arith);
        translating_proper = λ range e. good_proper (word target translate_window) range (sym is_translating ∙ e);
        delegating_proper = λ range e. good_proper (word target delegate_window) range (sym is_delegating ∙ e);
      }

  none_after : drop (length block - low) (drop low block) ≡ []
  none_after = Post-is low (length block) block upper_begins ∙ drop-length block

  -- the items' transfer is the message's
  pub message_done : (sender receiver : ℕ) {translating delegating : Reading} {before after upper : List ℕ} {count : ℕ} →
      translating ≡ reading (word target translate_window) → delegating ≡ reading (word target delegate_window) →
      Transferred before after upper
      (moved_by (places_in before) sender receiver source translating delegating (take (length block - low) (drop low block)) typed) count →
      Transferred before after (put_mid low (length block - low) block upper) (transfer (places_in before) sender receiver source target) count
  message_done sender receiver {before = before} is_translating is_delegating done =
      let there = rw (is_translating, is_delegating, uppers, is_Block) at done in
      let is_whole = carried_moved (places_in before) sender receiver source target low copied_full (omega (arith, counts)) typed counts in
      rw (sym t, is_whole)
      (record {
        leaves = there.leaves;
        shows = there.shows;
        fills = there.fills;
        receives = rw (none_after, append-nil, there.receives, is_Block);
        live_links = there.live_links;
      })
