-- A range that a translated item shows is proper.
use Rattle.std.specs.Prelude.{Ok, Err}
use Prim.Native.Nat.{ℕ, zero, suc, ◌^◌, ◌≤◌}
use mathlib.Core.Path.{◌≡◌, sym, subst, ◌∙◌}
use mathlib.Core.Bool.{true, false}
use mathlib.Core.List.{List}
use native.Mathlib.Omega.{arith}
use lib.Bits.{and_le_l}
use Rattle.descriptor.specs.declared.Range.{Range}
use Rattle.descriptor.specs.Descriptors.{Received, Proper, ShownProper}
use Rattle.descriptor.specs.declared.Reason.TheVariants.{TranslationBroke}
use Rattle.interface.specs.Places.{Cap, cap_at, places_in}
use Rattle.interface.specs.Message.{sender_place, translated_base, common, translates, translate_item}
use Rattle.interface.proofs.Basics.BoolLaws.{cases}
use Rattle.windows.specs.Matching.{Matched}
use Rattle.windows.proofs.WindowLaws.{window_ends}
use Rattle.translation.proofs.TranslateLaws.{shown_aligned, shown_ends}

-- what places have in common of a mask is no more than the mask
common_le : (mask n : ℕ) (caps : ℕ → Cap) → common mask n caps ≤ mask
unfolding common
common_le mask zero caps = omega arith
common_le mask (suc n) caps = omega (arith, common_le mask n caps, and_le_l (common mask n caps) (caps n).permissions)

-- a range that a translated item shows is proper
pub translated_proper : (table : List ℕ) (sender receiver : ℕ) (item window : Range) → Matched item window → {received : Received} →
    received ≡ (translate_item (places_in table) sender receiver (Ok (item, window))).received → ShownProper received
unfolding translate_item
translated_proper table sender receiver item window m e range shows =
    let caps = cap_at table in
    let held : ℕ → Cap = λ i. caps (sender_place sender item i) in
    let shown : Range =
    record {
      space = item.space;
      base = translated_base caps sender receiver item;
      order = item.order;
      mask = common item.mask (2 ^ item.order) held;
    } in
    cases (translates caps sender receiver item window)
    (λ (t : translates caps sender receiver item window ≡ true).
    let ends = shown_ends caps sender receiver item window t in
    let same_received : Ok shown ≡ Ok range = sym (rw t at e) ∙ shows in
    let same : shown ≡ range = cc in
    subst Proper same
    (record {
      space_small = m.item_proper.space_small;
      order_small = m.item_proper.order_small;
      base_aligned = shown_aligned caps sender receiver item window t;
      ends_inside = omega (arith, window_ends item window m);
      mask_small = omega (arith, m.item_proper.mask_small, common_le item.mask (2 ^ item.order) held);
    }))
    (λ (f : translates caps sender receiver item window ≡ false).
    let none : Err TranslationBroke ≡ Ok range = sym (rw f at e) ∙ shows in
    let never : ◌≡◌ {A = ℕ} 0 1 = cc in absurd (omega arith))
