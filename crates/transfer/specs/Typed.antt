-- One typed item by its words, and what it leaves of the place table.
use Rattle.std.specs.Prelude.{ℕ, ◌≤◌, ◌≡◌, List, eqb, if◌then◌else◌}
use Rattle.words.specs.Sizes.{object, selectors}
use Rattle.descriptor.specs.declared.Reading.{Reading}
use Rattle.descriptor.specs.Descriptors.{ShownProper}
use Rattle.interface.specs.Places.{State}
use Rattle.interface.specs.RangeDescriptors.{reading, matched}
use Rattle.interface.specs.Message.{delegate_bit, Item, delegate_item, translate_item}
use Rattle.delegation.specs.Delegating.{Taken}
use Rattle.transfer.specs.declared.Outcome.{Outcome}

-- the outcome of an item by its two words and what the two windows say
abbrev pub item_by : State → ℕ → ℕ → ℕ → ℕ → Reading → Reading → Item
item_by s sender receiver descriptor second translating delegating =
    if eqb (delegate_bit second) 1
    then delegate_item s sender receiver second (matched (reading descriptor) delegating)
    else translate_item s sender receiver (matched (reading descriptor) translating)

-- an item that is done: what the receiver is shown, which is proper if it is a range, and its delegations, no more than the object space has selectors
pub record Done (before after : List ℕ) (item : Item) (outcome : Outcome) : Type 0 where
  pub shown : outcome.received ≡ item.received
  pub proper : ShownProper outcome.received
  pub taken : Taken before after item.effects outcome.filled
  pub few : outcome.filled ≤ selectors object
