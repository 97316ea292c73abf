-- An item with its window, and the range that its delegation fills.
use Rattle.std.specs.Prelude.{ℕ, ◌≡◌}
use Rattle.descriptor.specs.declared.Range.{Range}
use Rattle.descriptor.specs.Descriptors.{Proper}
use Rattle.interface.specs.Message.{smaller_order, raised_base}

-- an item and its window: two proper ranges of one space
pub record Matched (item window : Range) : Type 0 where
  pub item_proper : Proper item
  pub window_proper : Proper window
  pub same_space : item.space ≡ window.space

-- the range that a delegation fills: the window's part of the smaller order around the hotspot, with the item's mask
abbrev pub destination_of : ℕ → Range → Range → Range
destination_of hotspot item window =
    let o = smaller_order item window in
    record { space = item.space; base = raised_base window o hotspot; order = o; mask = item.mask }
