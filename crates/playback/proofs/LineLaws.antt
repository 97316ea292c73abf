-- Lines written into a buffer: none, that of what stops the reading, and the last ones.
use Prim.Native.Nat.{ℕ, ◌≤◌}
use mathlib.Core.Path.{◌≡◌, refl, sym, ap, ◌∙◌}
use mathlib.Core.List.{List, [], ◌∷◌, ◌++◌, append-nil}
use lib.ListN.{length}
use Rattle.interface.specs.Journal.{Line, ended, spelled, spelled_lines, Beginning, empty, of_no_kind, cut_off, whole, beginning, stop_lines}
use Rattle.interface.proofs.Journal.JournalLaws.{spelled_append}
use Rattle.texts.specs.Texts.{Wrote}
use Rattle.texts.proofs.TextLaws.{wrote_same, wrote_then}
use Rattle.playback.specs.declared.Found.{Found}
use Rattle.playback.specs.Playing.{found_of, found_in, stop_of}

-- the line of what stops the reading, as the code finds it, is that of what the bytes begin with
stop_lines_lem : (b : Beginning) → stop_of (found_of b) ≡ stop_lines b
unfolding stop_lines
stop_lines_lem empty = refl
stop_lines_lem (of_no_kind kind) = refl
stop_lines_lem cut_off = refl
stop_lines_lem (whole kind body later) = refl

pub stop_of_found : (left : List ℕ) (next : Found) → next ≡ found_in left → stop_of next ≡ stop_lines (beginning left)
stop_of_found left next found = ap stop_of found ∙ stop_lines_lem (beginning left)

-- no line, or one, written where it was found
pub stop_none : (next : Found) {out after : List ℕ} {at end : ℕ} → stop_of next ≡ [] → Wrote out at [] after end → Wrote out at (spelled_lines (stop_of next)) after end
unfolding spelled_lines
stop_none next none wrote = wrote_same (sym (ap spelled_lines none)) wrote

pub stop_one : (next told : Found) (line : Line) {out after : List ℕ} {at end : ℕ} → next ≡ told → stop_of told ≡ line ∷ [] → Wrote out at (spelled line) after end →
    Wrote out at (spelled_lines (stop_of next)) after end
unfolding spelled_lines
stop_one next told line is_told one wrote =
    wrote_same (sym (ap (λ (f : Found). spelled_lines (stop_of f)) is_told ∙ ap spelled_lines one ∙ append-nil (spelled line))) wrote

-- the last lines
pub last_written : (lines : List Line) (count : ℕ) {out middle after : List ℕ} {at place end : ℕ} → at ≤ length out → Wrote out at (spelled_lines lines) middle place →
    Wrote middle place (spelled (ended count)) after end → Wrote out at (spelled_lines (lines ++ (ended count ∷ []))) after end
unfolding spelled_lines
last_written lines count inside first second =
    wrote_same (ap (λ (l : List ℕ). spelled_lines lines ++ l) (sym (append-nil (spelled (ended count)))) ∙ sym (spelled_append lines (ended count ∷ []))) (wrote_then inside first second)
