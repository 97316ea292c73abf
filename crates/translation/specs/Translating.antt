-- What a translation tests at each offset.
use Rattle.std.specs.Prelude.{ℕ, ◌+◌, ◌^◌, Bool, ◌&&◌, eqb, leb, ltb}
use Rattle.words.specs.Ranges.{aligned}
use Rattle.descriptor.specs.declared.Range.{Range}

-- whether a selector lies at an offset of a range that may begin at a base, and inside a window
unfoldable pub lies_there : ℕ → ℕ → ℕ → ℕ → Range → Bool
lies_there selector base order offset window =
    eqb selector (base + offset) && aligned order base && leb window.base selector && ltb selector (window.base + 2 ^ window.order)
