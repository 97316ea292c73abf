-- Domain 0 is the first stride of places.
use mathlib.Core.Path.{◌∙◌}
use native.Mathlib.Omega.{arith}
use borrow.Author.Rules.{rules}
use Rattle.place_rules.proofs.PlaceTests.{equal_same, fixed_past, fixed_same}
use Rattle.place_rules.proofs.fixed_keeps.Goals as goal

pub returns-then-place-ge-STRIDE : goal.returns-then-place-ge-STRIDE
returns-then-place-ge-STRIDE c = search (fixed_past, rules)

pub returns : goal.returns
returns c =
    let of_boot = rw c.counted.ensures at c.boot_cap.ensures in
    fixed_same _ _ _ _ _ (omega arith) c.cap_at.ensures of_boot (c.eq.ensures ∙ equal_same c.cap_at.result c.boot_cap.result)
