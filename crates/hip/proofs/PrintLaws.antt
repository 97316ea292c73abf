-- Each call that spells lines comes further, where the buffer takes the longest line.
use Prim.Native.Nat.{ℕ, ◌+◌, ◌≤◌, ◌<◌}
use mathlib.Core.Path.{◌≡◌, ap, ◌∙◌}
use mathlib.Core.Bool.{true, false}
use mathlib.Core.List.{List}
use native.Mathlib.Omega.{arith}
use lib.Dec.{ltb}
use lib.ListN.{length}
use borrow.Author.Tests.{ltb-true, ltb-false}
use Rattle.interface.proofs.Basics.BoolLaws.{cases}
use Rattle.hip_text.specs.PageText.{line_bytes, text_between, Spells}
use Rattle.hip_text.specs.declared.Spelled.{Spelled}
use Rattle.hip_text.proofs.LineLaws.{text_none}

pub spells_more : {lines : List (List ℕ)} {from : ℕ} {before after : List ℕ} {spelled : Spelled} → from < length lines → line_bytes ≤ length before →
    Spells lines from before after spelled → from < spelled.next
spells_more {lines} {from} {before} {spelled = spelled} left room spells =
    cases (ltb from spelled.next)
    (λ (t : ltb from spelled.next ≡ true). ltb-true from spelled.next t)
    (λ (f : ltb from spelled.next ≡ false).
    let same : spelled.next ≡ from = omega (arith, ltb-false from spelled.next f, spells.starts) in
    let none : spelled.count ≡ 0 = spells.counts ∙ ap (λ (next : ℕ). length (text_between lines from next)) same ∙ ap length (text_none lines from) in
    let short : length before < spelled.count + line_bytes = spells.stops (omega arith) in
    absurd (omega arith))
