-- The arms tell the variants of both readings, and where both are ranges the test tells whether they are of one space.
use mathlib.Core.Path.{◌≡◌, sym}
use native.Mathlib.Omega.{arith}
use Rattle.descriptor.specs.Descriptors.{matched}
use Rattle.descriptor.proofs.DescriptorLaws.{matched_null, matched_both, matched_apart}
use Rattle.descriptor.proofs.Reading.matching.Goals as goal

pub returns-in-Null : goal.returns-in-Null
returns-in-Null c = rw (c.in-Null.is, matched_null)

pub returns-in-Malformed : goal.returns-in-Malformed
returns-in-Malformed c = rw c.in-Malformed.is (sym c.beside_malformed.ensures)

pub returns-in-Null-window : goal.returns-in-Null-window
unfolding matched
returns-in-Null-window c = rw (c.in-Good.is, c.in-Null-window.is)

pub returns-in-Malformed-window : goal.returns-in-Malformed-window
unfolding matched
returns-in-Malformed-window c = rw (c.in-Good.is, c.in-Malformed-window.is)

pub returns-then-item-other : goal.returns-then-item-other
returns-then-item-other c =
    let same : c.in-Good.item.space ≡ c.in-Good-window.other.space = omega arith in
    rw (c.in-Good.is, c.in-Good-window.is, matched_both c.in-Good.item c.in-Good-window.other same)

pub returns-else-item-other : goal.returns-else-item-other
returns-else-item-other c =
    let apart : c.in-Good.item.space ≡ c.in-Good-window.other.space → ⊥ = omega arith in
    rw (c.in-Good.is, c.in-Good-window.is, matched_apart c.in-Good.item c.in-Good-window.other apart)
