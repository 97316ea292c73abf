-- Records found in bytes, played with their lines, and a whole journal replayed from boot on.
use Rattle.std.specs.Prelude.{ℕ, ◌+◌, ◌*◌, ◌≤◌, ◌<◌, ◌≡◌, ◌⊎◌, Bool, true, false, List, [], ◌∷◌, Result, Ok, Err, length, take, drop}
use Rattle.interface.specs.Places.{Tables, sized}
use Rattle.interface.specs.Demand.{LentOut, tables_after_all, from_boot, history_of}
use Rattle.interface.specs.Journal.{Line, short, unknown, spelled_lines, Beginning, empty, of_no_kind, cut_off, whole, beginning, contents, recorded, lines_from, replay}
use Rattle.texts.specs.Texts.{Wrote}
use Rattle.journal_lines.specs.Lines.{line_bytes}
use Rattle.playback.specs.declared.Found.{Found}
use Rattle.playback.specs.declared.Found.TheVariants.{Nothing, Unknown, Short, Whole}
use Rattle.playback.specs.declared.Played.{Played}
use Rattle.playback.specs.declared.Replayed.{Replayed}
use Rattle.playback.specs.declared.Unfinished.{Unfinished}
use Rattle.playback.specs.declared.Unfinished.TheVariants.{TooShort, OtherLengths}

-- what some bytes begin with, as the code tells it: of a whole record its kind and the length of its body
abbrev pub found_of : Beginning → Found
found_of empty = Nothing
found_of (of_no_kind kind) = Unknown kind
found_of cut_off = Short
found_of (whole kind body later) = Whole kind (length body)

abbrev pub found_in : List ℕ → Found
found_in bytes = found_of (beginning bytes)

-- whether that is a whole record
abbrev pub is_whole : Found → Bool
is_whole Nothing = false
is_whole (Unknown kind) = false
is_whole Short = false
is_whole (Whole kind size) = true

-- the line of what stops the reading, as the code tells it: none where the bytes end, nor at a whole record, which does not stop it
abbrev pub stop_of : Found → List Line
stop_of Nothing = []
stop_of (Unknown kind) = unknown kind ∷ []
stop_of Short = short ∷ []
stop_of (Whole kind size) = []

-- lines written in turn into a buffer of so many bytes from a place on had room: before each of them, the longest line would have fitted
abbrev pub RoomForEach : List Line → ℕ → ℕ → Type 0
RoomForEach lines at size = (k : ℕ) → k < length lines → at + length (spelled_lines (take k lines)) + line_bytes ≤ size

-- bytes played from some tables and an index on, with their lines written into a buffer at a place: they are whole records, the tables are those after their hypercalls in turn,
-- the next index comes after theirs, the text written is that of their lines, and each of these had room
pub record Plays (bytes : List ℕ) (before : Tables) (index : ℕ) (out : List ℕ) (at : ℕ) (after : Tables) (next_index : ℕ) (out_after : List ℕ) (end : ℕ) : Type 0 where
  pub all_whole : (contents bytes).left ≡ []
  pub leaves : after ≡ tables_after_all before (recorded bytes)
  pub counts : next_index ≡ index + length (contents bytes).calls
  pub writes : Wrote out at (spelled_lines (lines_from before index (contents bytes).calls)) out_after end
  pub room : RoomForEach (lines_from before index (contents bytes).calls) at (length out)

-- where playing some bytes stops: at what begins there, which is a whole record only where the buffer has no room for the longest line
pub record Stops (input out : List ℕ) (played : Played) : Type 0 where
  pub inside : played.at ≤ length input
  pub stands : played.next ≡ found_in (drop played.at input)
  pub no_room : is_whole played.next ≡ true → length out < played.written + line_bytes

-- a journal replayed from boot on: so many of its records are done, the tables are those that these leave, what was lent out then is what their history says, the text at the front
-- of a buffer is that of some lines, and the line of each record done had room
pub record Replays (journal : List ℕ) (records : ℕ) (lines : List Line) (text : List ℕ) (after : Tables) (text_after : List ℕ) (bytes : ℕ) : Type 0 where
  pub counts : records ≤ length (recorded journal)
  pub leaves : after ≡ from_boot (take records (recorded journal))
  pub lent : LentOut after (history_of (take records (recorded journal)))
  pub writes : Wrote text 0 (spelled_lines lines) text_after bytes
  pub room : RoomForEach (take records (replay journal)) 0 (length text)

-- what replaying comes to: all records and all lines, where two of the longest lines fitted after the records' lines; or, in a buffer that is too short for that, the records and
-- their lines, either all of them or as many until it has no room for one more of the longest lines; tables of other lengths stay, and so does the buffer
abbrev pub ReplayedAs : Tables → List ℕ → List ℕ → Result Replayed Unfinished → Tables → List ℕ → Type 0
ReplayedAs before journal text (Ok done) after text_after =
    (sized before ≡ true) × (done.records ≡ length (recorded journal)) × (length (spelled_lines (take done.records (replay journal))) + 2 * line_bytes ≤ length text) ×
    Replays journal done.records (replay journal) text after text_after done.bytes
ReplayedAs before journal text (Err (TooShort done)) after text_after =
    (sized before ≡ true) × (length text < done.bytes + 2 * line_bytes) × ((done.records ≡ length (recorded journal)) ⊎ (length text < done.bytes + line_bytes)) ×
    Replays journal done.records (take done.records (replay journal)) text after text_after done.bytes
ReplayedAs before journal text (Err OtherLengths) after text_after =
    (sized before ≡ false) × (after ≡ before) × (text_after ≡ text)
