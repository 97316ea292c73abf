-- The buffers of a replay, and its turns.
use Rattle.std.specs.Prelude.{ℕ, zero, suc, ◌+◌, ◌-◌, ◌*◌, ◌^◌, ◌≤◌, ◌<◌, ◌≡◌, ◌⊎◌, Bool, true, false, List, ◌++◌, eqb, length, take, drop, if◌then◌else◌}
use Rattle.interface.specs.Places.{Tables}
use Rattle.journal_lines.specs.Lines.{line_bytes}
use Rattle.playback.specs.declared.Found.{Found}
use Rattle.playback.specs.declared.Found.TheVariants.{Nothing, Unknown, Short, Whole}
use Rattle.playback.specs.Playing.{found_in, is_whole, Plays}
use Rattle.turns.specs.declared.Progress.{Progress}

-- so many bytes of lines wait in the output buffer, which is at least as long as two of the longest lines
pub record Waits (out : List ℕ) (waiting : ℕ) : Type 0 where
  pub lines : waiting ≤ length out
  pub long : 2 * line_bytes ≤ length out

-- a progress whose positions lie in the input buffer and in the output buffer
pub record Inside (progress : Progress) (input out : List ℕ) : Type 0 where
  pub next : progress.at ≤ progress.filled
  pub read : progress.filled ≤ length input
  pub lines : progress.waiting ≤ length out
  pub long : 2 * line_bytes ≤ length out

-- whether nothing after what begins at a position counts: a record of no kind ends the journal, and a short one or none where there are no more bytes
abbrev pub is_end : Found → Bool → Bool
is_end Nothing last = last
is_end (Unknown kind) last = true
is_end Short last = last
is_end (Whole kind size) last = false

-- a buffer in which the bytes from a position on, so many, are copied to the front
abbrev pub fronted : List ℕ → ℕ → ℕ → List ℕ
fronted buffer from size = take size (drop from buffer) ++ drop size buffer

-- where the next line goes: at the front where the lines that wait had to be written first, for want of room, and else after these
unfoldable pub line_start : Progress → ℕ
line_start progress = if is_whole progress.next then 0 else progress.waiting

-- whether the bytes of a turn are the journal's last: as before where the lines that wait had to be written first, and else where reading added none to those kept
unfoldable pub last_after : Progress → Progress → Bool
last_after progress later = if is_whole progress.next then progress.is_last else eqb later.filled (progress.filled - progress.at)

-- the bytes that were read, the journal's last or not, replayed from some tables and a count on, with their lines added at a place of the output buffer: whole records are played up
-- to where the next begins, and the progress says what begins there. A whole one is left only where the buffer has no room for the longest line, and the journal is over exactly where
-- nothing after that counts; but where the count could pass 64 bits no record is played, and the journal is over
pub record Turn (input : List ℕ) (last : Bool) (before : Tables) (count : ℕ) (out : List ℕ) (start : ℕ) (after : Tables) (out_after : List ℕ) (progress : Progress) : Type 0 where
  pub all_read : progress.filled ≡ length input
  pub plays : Plays (take progress.at input) before count out start after progress.done out_after progress.waiting
  pub stands : progress.next ≡ found_in (drop progress.at input)
  pub no_room : count + length input < 2 ^ 64 → is_whole progress.next ≡ true → length out_after < progress.waiting + line_bytes
  pub over : count + length input < 2 ^ 64 → progress.is_over ≡ is_end progress.next last
  pub past_count : 2 ^ 64 ≤ count + length input → (progress.at ≡ 0) × (progress.is_over ≡ true)
  pub still_last : progress.is_last ≡ last

-- the bytes of the input buffer that a progress left stand first among those read by a later one
pub record KeepsUnplayed (progress : Progress) (input : List ℕ) (later : Progress) (input_after : List ℕ) : Type 0 where
  pub still : take (progress.filled - progress.at) input_after ≡ take (progress.filled - progress.at) (drop progress.at input)
  pub among : progress.filled - progress.at ≤ later.filled

-- where the replay of a journal stands between two turns
pub record Standing : Type 0 where
  pub progress : Progress
  pub tables : Tables
  pub input : List ℕ
  pub out : List ℕ

-- the progress before the first turn, with so many bytes of lines that wait
abbrev pub begun : ℕ → Progress
begun waiting = record { filled = 0; at = 0; next = Nothing; done = 0; waiting = waiting; is_last = false; is_over = false }

-- one turn, of a journal that is not over
pub record Follows (before after : Standing) : Type 0 where
  pub goes_on : before.progress.is_over ≡ false
  pub turn :
      Turn (take after.progress.filled after.input) (last_after before.progress after.progress) before.tables before.progress.done before.out
      (line_start before.progress) after.tables after.out after.progress
  pub keeps : KeepsUnplayed before.progress before.input after.progress after.input

-- so many turns, one after the other
unfoldable pub Turns : ℕ → Standing → Standing → Type 0
Turns zero before after = before ≡ after
Turns (suc count) before after = (middle : Standing) × Turns count before middle × Follows middle after

-- turns up to where the journal is over, or as many as 64 bits count
abbrev pub TurnsToTheEnd : Standing → Standing → Type 0
TurnsToTheEnd before after = (count : ℕ) × Turns count before after × ((after.progress.is_over ≡ true) ⊎ (count ≡ 2 ^ 64 - 1))
