-- Laws of an item and its window: what is matched is proper, and so is the part of the window around the hotspot.
use Rattle.std.specs.Prelude.{Ok}
use Prim.Native.Nat.{ℕ, ◌+◌, ◌%◌, ◌^◌, ◌≤◌, ◌<◌, min}
use mathlib.Core.Path.{◌≡◌, sym, ◌∙◌}
use native.Mathlib.Nat.{add-zero}
use native.Mathlib.Omega.{arith}
use Rattle.words.specs.Sizes.{domains, spaces, selectors, place_of, places}
use Rattle.words.specs.Ranges.{rounded}
use Rattle.words.proofs.PlaceLaws.{is_place}
use Rattle.words.proofs.RangeLaws.{keeps_aligned, ends_inside}
use Rattle.descriptor.specs.declared.Range.{Range}
use Rattle.descriptor.specs.declared.Reading.{Reading}
use Rattle.descriptor.specs.Descriptors.{Match, Proper, ReadProper}
use Rattle.descriptor.proofs.DescriptorLaws.{matched_good, good_proper}
use Rattle.interface.specs.RangeDescriptors.{reading, matched}
use Rattle.interface.specs.Message.{smaller_order}
use Rattle.windows.specs.Matching.{Matched, destination_of}

-- what is matched are proper ranges of one space
pub is_matched : (descriptor : ℕ) (read : Reading) {match : Match} (item window : Range) → ReadProper read → match ≡ matched (reading descriptor) read →
    match ≡ Ok (item, window) → Matched item window
is_matched descriptor read item window proper m e =
    let good = matched_good (reading descriptor) read item window (sym m ∙ e) in
    record { item_proper = good_proper descriptor item good.0; window_proper = proper window good.1; same_space = good.2 }

-- the number of a place that is made of a domain, a space and a selector is below the number of places
pub made_small : (domain space selector place : ℕ) → domain < domains → space < spaces → selector < selectors space → place ≡ place_of domain space selector →
    place < places
made_small domain space selector place d l b e = rw e (is_place domain space selector d l b)

-- where the part that a delegation uses begins in a side, as the code makes it, and that it ends there
module _ (side order hotspot size result : ℕ) (is_size : size ≡ 2 ^ side) (is_result : result ≡ rounded order (hotspot % size)) where
  pub offset_is : result ≡ rounded order (hotspot % 2 ^ side)
  offset_is = rw is_size at is_result

  pub offset_ends : order ≤ side → result + 2 ^ order ≤ 2 ^ side
  offset_ends h = omega (arith, offset_is, ends_inside side order hotspot 0 h)

-- a matched window ends in the item's space
pub window_ends : (item window : Range) → Matched item window → window.base + 2 ^ window.order ≤ selectors item.space
window_ends item window m = rw (sym m.same_space) at m.window_proper.ends_inside

-- the destination of a delegation, as the code makes it
pub is_destination : (hotspot : ℕ) (item window : Range) {item_order window_order order at selected space mask : ℕ} {range : Range} → item_order ≡ item.order →
    window_order ≡ window.order → order ≡ min item_order window_order → (at ≡ rounded order (hotspot % 2 ^ window_order)) × (at + 2 ^ order ≤ 2 ^ window_order) →
    (selected ≡ window.base + at) × (selected < selectors window.space) → space ≡ item.space → mask ≡ item.mask →
    range ≡ record { space = space; base = selected; order = order; mask = mask } → range ≡ destination_of hotspot item window
is_destination hotspot item window io wo o a s sp m r = rw (sp, s.0, a.0, o, io, wo, m) at r

-- it is a proper range
pub destination_proper : (hotspot : ℕ) (item window : Range) → Matched item window → Proper (destination_of hotspot item window)
destination_proper hotspot item window m =
    let o = smaller_order item window in
    let within = ends_inside window.order o hotspot window.base (omega arith) in
    record {
      space_small = m.item_proper.space_small;
      order_small = omega (arith, m.item_proper.order_small);
      base_aligned = keeps_aligned window.order o hotspot window.base (omega arith) m.window_proper.base_aligned;
      ends_inside = omega (arith, window_ends item window m);
      mask_small = m.item_proper.mask_small;
    }

-- a range that is made of another's parts is proper with it
pub made_proper : (range : Range) {space selected order mask : ℕ} → Proper range → space ≡ range.space →
    (selected ≡ range.base + 0) × (selected < selectors range.space) → order ≡ range.order → mask ≡ range.mask →
    Proper (record { space = space; base = selected; order = order; mask = mask })
made_proper range p sp s o m = rw (sp, s.0, add-zero range.base, o, m) p
