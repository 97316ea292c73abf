-- The texts of a line one after the other are the line, and no line is longer than the longest.
use Prim.Native.Nat.{ℕ, ◌≤◌, zero-le, ◌<◌}
use mathlib.Core.Path.{◌≡◌, refl, sym, ◌∙◌}
use mathlib.Core.List.{List, [], ◌∷◌, ◌++◌, append_assoc}
use native.Mathlib.Nat.{zero-add}
use lib.ListN.{length}
use lib.Seq.{length-take-le}
use borrow.Author.Tests.{lt-ltb, le-ltb}
use Rattle.io.specs.Counts.{IsPrefixLen}
use Rattle.endian.specs.Parts.{written}
use Rattle.interface.specs.Journal.{done, spelled, decimal, blank, newline}
use Rattle.interface.specs.Journal.{Line as JournalLine}
use Rattle.texts.specs.Texts.{Wrote}
use Rattle.texts.proofs.TextLaws.{wrote_then}
use Rattle.journal_lines.specs.Lines.{line_of, line_bytes, fitting}
use Rattle.journal_lines.specs.declared.Line.{Line}

-- the four numbers of a record that was done
pub wrote_done : (index kind status answer : ℕ) {out out1 out2 out3 out4 : List ℕ} {end1 end2 end3 end4 : ℕ} →
    Wrote out 0 (decimal index ++ (blank ∷ [])) out1 end1 →
    Wrote out1 end1 (decimal kind ++ (blank ∷ [])) out2 end2 →
    Wrote out2 end2 (decimal status ++ (blank ∷ [])) out3 end3 →
    Wrote out3 end3 (decimal answer ++ (newline ∷ [])) out4 end4 →
    Wrote out 0 (spelled (done index kind status answer)) out4 end4
unfolding spelled
wrote_done index kind status answer one two three four =
    simp append_assoc (simp append_assoc at (wrote_then zero-le (wrote_then zero-le (wrote_then zero-le one two) three) four))

-- a word and a number after it
pub wrote_named : (name : List ℕ) (number : ℕ) {out out1 out2 : List ℕ} {end1 end2 : ℕ} →
    Wrote out 0 name out1 end1 →
    Wrote out1 end1 (decimal number ++ (newline ∷ [])) out2 end2 →
    Wrote out 0 (name ++ decimal number ++ (newline ∷ [])) out2 end2
wrote_named name number one two = rw append_assoc (wrote_then zero-le one two)

module _ (before : List ℕ) (line : Line) where
  -- a buffer that is shorter than the longest line is left alone
  pub line_too_long : length before < line_bytes → (before ≡ written before 0 (fitting before line)) × ((0 ≡ length (fitting before line)) × IsPrefixLen 0 before)
  unfolding fitting
  line_too_long small = rw (lt-ltb (length before) line_bytes small) (refl, (refl, (zero-le, refl)))

  -- any other has the line's text
  pub line_spelled : (after : List ℕ) (end : ℕ) (same : JournalLine) → line_of line ≡ same → line_bytes ≤ length before → Wrote before 0 (spelled same) after end →
      (after ≡ written before 0 (fitting before line)) × ((end ≡ length (fitting before line)) × IsPrefixLen end after)
  unfolding fitting
  line_spelled after end same e long wrote =
      rw (le-ltb (length before) line_bytes long, e) (wrote.leaves, (wrote.ends ∙ zero-add _, (wrote.fits, sym (length-take-le end after wrote.fits))))
