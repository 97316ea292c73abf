-- A message does not look at the objects: over a place table it is the same whatever they are, and its steps leave them.
use Rattle.std.specs.Prelude.{Ok, Err, if◌then◌else◌}
use Prim.Native.Nat.{ℕ, zero, suc, ◌+◌, ◌^◌}
use mathlib.Core.Path.{◌≡◌, refl, ap}
use mathlib.Core.Bool.{Bool, true, false}
use mathlib.Core.List.{List, []}
use lib.Dec.{eqb}
use Rattle.words.specs.Sizes.{place_of}
use Rattle.descriptor.specs.Descriptors.{Match}
use Rattle.interface.specs.Basics.{word, listed}
use Rattle.interface.specs.Places.{State, places_in}
use Rattle.interface.specs.RangeDescriptors.{reading, matched}
use Rattle.interface.specs.Effects.{Effect, act, run, filled}
use Rattle.interface.specs.Message.{typed_count, translate_window, delegate_window, descriptor_at, second_at, delegate_bit, hotspot_field, Item, source_domain, smaller_order, raised_base, delegate_item, translate_item, item_of, carried, transfer}
use Rattle.interface.proofs.Tables.TurnLaws.{run_append, gives}
use Rattle.delegation.proofs.DelegateLaws.{run_more, filled_more}
use Rattle.transfer.specs.Turns.{Transferred}

module _ (objects : ℕ → ℕ → ℕ) where
  -- a state with other objects
  abbrev pub seen : State → State
  seen s = record { caps = s.caps; objects = objects }

  -- steps that do not look at the objects and leave them
  record Unseeing (s : State) (effects : List Effect) : Type 0 where
    runs : run effects (seen s) ≡ seen (run effects s)
    fills : filled effects (seen s) ≡ filled effects s

  unseeing_none : (s : State) → Unseeing s []
  unfolding run filled
  unseeing_none s = record { runs = refl; fills = refl }

  -- a delegation for each number below one
  unseeing_gives : (destination source mask : ℕ → ℕ) (n : ℕ) (s : State) → Unseeing s (gives destination source mask n)
  unfolding listed run filled act
  unseeing_gives destination source mask zero s = unseeing_none s
  unseeing_gives destination source mask (suc n) s =
      let before = unseeing_gives destination source mask n s in
      let effects = gives destination source mask n in
      record {
        runs = rw (run_more effects (destination n) (source n) (mask n) (seen s), run_more effects (destination n) (source n) (mask n) s, before.runs);
        fills =
            rw (
              filled_more effects (destination n) (source n) (mask n) (seen s),
              filled_more effects (destination n) (source n) (mask n) s,
              before.runs,
              before.fills,
            );
      }

  -- an item that is the same whatever the objects are
  record Unseen (s : State) (item : State → Item) : Type 0 where
    same : item (seen s) ≡ item s
    steps : Unseeing s (item s).effects

  unseen_delegate : (s : State) (sender receiver second : ℕ) (match : Match) → Unseen s (λ t. delegate_item t sender receiver second match)
  unfolding delegate_item
  unseen_delegate s sender receiver second (Err reason) = record { same = refl; steps = unseeing_none s }
  unseen_delegate s sender receiver second (Ok (item, window)) =
      let o = smaller_order item window in
      let steps =
      unseeing_gives (λ i. place_of receiver item.space (raised_base window o (hotspot_field second) + i))
      (λ i. place_of (source_domain sender second) item.space (raised_base item o (hotspot_field second) + i)) (λ i. item.mask) (2 ^ o) s in
      record { same = rw steps.fills; steps = steps }

  unseen_translate : (s : State) (sender receiver : ℕ) (match : Match) → Unseen s (λ t. translate_item t sender receiver match)
  unfolding translate_item
  unseen_translate s sender receiver (Err reason) = record { same = refl; steps = unseeing_none s }
  unseen_translate s sender receiver (Ok (item, window)) = record { same = refl; steps = unseeing_none s }

  -- an item that is one or the other
  unseen_either : (s : State) (first : Bool) (a b : State → Item) → Unseen s a → Unseen s b → Unseen s (λ t. if first then a t else b t)
  unseen_either s true a b p q = p
  unseen_either s false a b p q = q

  unseen_item : (s : State) (sender receiver : ℕ) (source target : List ℕ) (i : ℕ) → Unseen s (λ t. item_of t sender receiver source target i)
  unfolding item_of
  unseen_item s sender receiver source target i =
      let second = word source (second_at i) in
      let with : ℕ → Match = λ window. matched (reading (word source (descriptor_at i))) (reading (word target window)) in
      unseen_either s (eqb (delegate_bit second) 1) (λ t. delegate_item t sender receiver second (with delegate_window))
      (λ t. translate_item t sender receiver (with translate_window)) (unseen_delegate s sender receiver second (with delegate_window))
      (unseen_translate s sender receiver (with translate_window))

  -- some items in turn
  unseen_carried : (s : State) (sender receiver : ℕ) (source target : List ℕ) (n : ℕ) →
      (carried (seen s) sender receiver source target n ≡ carried s sender receiver source target n) ×
      (run (carried s sender receiver source target n).effects (seen s) ≡ seen (run (carried s sender receiver source target n).effects s))
  unfolding carried run
  unseen_carried s sender receiver source target zero = (refl, refl)
  unseen_carried s sender receiver source target (suc i) =
      let (same, runs) = unseen_carried s sender receiver source target i in
      let before = (carried s sender receiver source target i).effects in
      let unseen = unseen_item (run before s) sender receiver source target i in
      let effects = (item_of (run before s) sender receiver source target i).effects in (
        rw (same, runs, unseen.same, unseen.steps.fills),
        rw (run_append before effects (seen s), run_append before effects s, runs) unseen.steps.runs,
      )

  -- a transfer that is done, seen with the objects
  pub transferred_seen : (table : List ℕ) (sender receiver : ℕ) (source target : List ℕ) {after received : List ℕ} {count : ℕ} →
      Transferred table after received (transfer (places_in table) sender receiver source target) count →
      (count ≡ (transfer (seen (places_in table)) sender receiver source target).filled) ×
      (received ≡ (transfer (seen (places_in table)) sender receiver source target).block) ×
      (seen (places_in after) ≡ run (transfer (seen (places_in table)) sender receiver source target).effects (seen (places_in table)))
  transferred_seen table sender receiver source target done =
      let (same, runs) = unseen_carried (places_in table) sender receiver source target (typed_count (word source 0)) in (
        rw same done.fills,
        rw same done.receives,
        rw (same, runs) (ap seen done.shows),
      )
