-- Records played in turn with their lines, and what a whole journal comes to.
use Rattle.std.specs.Result.{is_err}
use Prim.Native.Nat.{ℕ, ◌+◌, ◌-◌, ◌≤◌, ◌<◌, zero-le}
use mathlib.Core.Path.{◌≡◌, refl, sym, ap, ◌∙◌, subst}
use mathlib.Core.Logic.{◌⊎◌, inl, inr}
use mathlib.Core.Bool.{true, false, true≢false}
use mathlib.Core.List.{List, [], ◌∷◌, ◌++◌, map, map-append, append-nil}
use native.Mathlib.Nat.{add-zero, zero-add}
use native.Mathlib.Omega.{arith}
use lib.ListN.{length, take, drop, length-map, length-append, take-append-drop}
use lib.Dec.{ltb}
use lib.Seq.{take_at, take-append-le}
use borrow.Author.Tests.{ltb-true, ltb-false}
use Rattle.reply.specs.Replies.{Reply, status_of}
use Rattle.interface.specs.Places.{Tables, sized, tables_of, tables}
use Rattle.interface.specs.Boot.{boot}
use Rattle.interface.specs.Damage.{sound}
use Rattle.interface.specs.Verdicts.{Call}
use Rattle.interface.specs.Rules.{boot_reply, boot_tables}
use Rattle.interface.specs.History.{hypercalls}
use Rattle.interface.specs.Demand.{LentOut, tables_after_all, from_boot, history_of}
use Rattle.interface.specs.Outcomes.{Booted}
use Rattle.interface.specs.Journal.{recorded_call, Line, ended, spelled_lines, beginning, Contents, contents_from, contents, recorded, lines_from, last_lines, replay_from, replay}
use Rattle.interface.proofs.Basics.BoolLaws.{cases}
use Rattle.interface.proofs.History.DemandLaws.{demand_3}
use Rattle.interface.proofs.Journal.JournalLaws.{IsRecord, NoRecord, none_read, parts_read, record_added, tables_append, lines_append, length_lines, spelled_append, parts_in_turn, replay_none}
use Rattle.interface.proofs.Consequences.ConsequenceLaws.{damaged_exactly}
use Rattle.texts.specs.Texts.{Wrote}
use Rattle.texts.proofs.TextLaws.{wrote_nothing, wrote_then}
use Rattle.journal_lines.specs.Lines.{line_bytes}
use Rattle.playback.specs.Playing.{found_in, is_whole, stop_of, RoomForEach, Plays, Stops, Replays}
use Rattle.playback.specs.declared.Found.{Found}
use Rattle.playback.specs.declared.Played.{Played}
use Rattle.playback.proofs.LineLaws.{stop_of_found}
use Rattle.playback.proofs.FoundLaws.{not_whole, FoundWhole, body_taken, front_next}

-- one line more that has room
room_more : (first one : List Line) (at size : ℕ) → length one ≡ 1 → RoomForEach first at size → at + length (spelled_lines first) + line_bytes ≤ size → RoomForEach (first ++ one) at size
room_more first one at size is_one each more k below =
    cases (ltb k (length first))
    (λ (t : ltb k (length first) ≡ true).
    let sooner = ltb-true k (length first) t in rw (take-append-le k first one (omega arith)) (each k sooner))
    (λ (f : ltb k (length first) ≡ false).
    let last : length first ≡ k = omega (arith, ltb-false k (length first) f, length-append first one) in rw (take_at first one k last) more)

module _ (before : Tables) (index : ℕ) (out : List ℕ) (at : ℕ) (inside : at ≤ length out) where
  -- no bytes are played
  pub plays_start : Plays [] before index out at before index out at
  unfolding contents_from lines_from spelled_lines tables_after_all
  plays_start =
      record {
        all_whole = refl;
        leaves = refl;
        counts = sym (add-zero index);
        writes = wrote_nothing out at inside;
        room = λ k below. absurd (omega arith);
      }

  -- one record more
  module _ {here : Tables} {next : ℕ} {middle : List ℕ} {place : ℕ} where
    plays_next : (front : List ℕ) (kind : ℕ) (body : List ℕ) {later : Tables} {out_after : List ℕ} {end : ℕ} → Plays front before index out at here next middle place →
        place + line_bytes ≤ length out → IsRecord kind body → later ≡ tables_after_all here (hypercalls (recorded_call kind body) ∷ []) →
        Wrote middle place (spelled_lines (lines_from here next (recorded_call kind body ∷ []))) out_after end →
        Plays (front ++ (kind ∷ body)) before index out at later (next + 1) out_after end
    plays_next front kind body {out_after = out_after} {end = end} plays fits one is_later wrote =
        let c = recorded_call kind body in
        let calls = (contents front).calls in
        let added = record_added front kind body plays.all_whole one in
        let lines : lines_from before index (calls ++ (c ∷ [])) ≡ lines_from before index calls ++ lines_from here next (c ∷ []) =
        rw (plays.leaves, plays.counts) (lines_append before index calls (c ∷ [])) in
        let text : spelled_lines (lines_from before index calls) ++ spelled_lines (lines_from here next (c ∷ [])) ≡ spelled_lines (lines_from before index (calls ++ (c ∷ []))) =
        sym (ap spelled_lines lines ∙ spelled_append (lines_from before index calls) (lines_from here next (c ∷ []))) in
        record {
          all_whole = ap (λ (read : Contents). read.left) added;
          leaves =
              is_later
              ∙ ap (λ (t : Tables). tables_after_all t (hypercalls c ∷ [])) plays.leaves
              ∙ sym (tables_append before calls (c ∷ []))
              ∙ sym (ap (λ (read : Contents). tables_after_all before (map hypercalls read.calls)) added);
          counts = rw (added, length-append calls (c ∷ [])) (omega (arith, plays.counts));
          writes =
              subst (λ (read : Contents). Wrote out at (spelled_lines (lines_from before index read.calls)) out_after end) (sym added)
              (subst (λ (t : List ℕ). Wrote out at t out_after end) text (wrote_then inside plays.writes wrote));
          room =
              subst (λ (read : Contents). RoomForEach (lines_from before index read.calls) at (length out)) (sym added)
              (subst (λ (l : List Line). RoomForEach l at (length out)) (sym lines)
              (room_more (lines_from before index calls) (lines_from here next (c ∷ [])) at (length out) (length_lines here next (c ∷ [])) plays.room (omega (arith, plays.writes.ends, fits))));
        }

    -- the record that is found where the records played end
    pub plays_more : (input : List ℕ) (from kind size : ℕ) {later : Tables} {out_after : List ℕ} {end : ℕ} → Plays (take from input) before index out at here next middle place →
        place + line_bytes ≤ length out → FoundWhole (drop from input) kind size →
        later ≡ tables_after_all here (hypercalls (recorded_call kind (take (from + 1 + size - (from + 1)) (drop (from + 1) input))) ∷ []) →
        Wrote middle place (spelled_lines (lines_from here next (recorded_call kind (take (from + 1 + size - (from + 1)) (drop (from + 1) input)) ∷ []))) out_after end →
        Plays (take (from + 1 + size) input) before index out at later (next + 1) out_after end
    plays_more input from kind size plays fits found is_later wrote =
        let body = body_taken input from kind size found in
        rw (front_next input from kind size found)
        (plays_next (take from input) kind found.body plays fits found.is_record (rw body at is_later) (rw body at wrote))

-- the first events are those of the first calls
first_events : (first second : List Call) (count : ℕ) → count ≡ length first → take count (map hypercalls (first ++ second)) ≡ map hypercalls first
first_events first second count e =
    rw (map-append hypercalls first second) (take_at (map hypercalls first) (map hypercalls second) count (length-map first hypercalls ∙ sym e))

-- records played from boot's tables
pub plays_from_boot : {bytes out out_after : List ℕ} {here after : Tables} {index next at end : ℕ} → here ≡ tables_of boot → Plays bytes here index out at after next out_after end →
    Plays bytes (tables_of boot) index out at after next out_after end
plays_from_boot {bytes} {out} {out_after} {here} {after} {index} {next} {at} {end} booted plays =
    subst (λ (t : Tables). Plays bytes t index out at after next out_after end) booted plays

-- boot's tables are sound
pub sound_from_boot : {here : Tables} → here ≡ from_boot [] → sound here ≡ true
sound_from_boot booted = subst (λ (t : Tables). sound t ≡ true) (sym booted) (damaged_exactly.never_from_boot [])

-- where playing stops with room for a line, no whole record begins
pub stopped_none : {input out : List ℕ} {played : Played} → Stops input out played → played.written + line_bytes ≤ length out → NoRecord (drop played.at input)
stopped_none {input} {played = played} stops room =
    not_whole (drop played.at input) (λ t. omega (arith, stops.no_room (ap is_whole stops.stands ∙ t)))

-- where playing stops, either no whole record begins or there is no room for a line
pub stopped_by : {input out : List ℕ} {played : Played} (size : ℕ) → size ≡ length out → Stops input out played →
    NoRecord (drop played.at input) ⊎ (size < played.written + line_bytes)
stopped_by {input} {out} {played} size is_size stops =
    cases (ltb size (played.written + line_bytes)) (λ (t : ltb size (played.written + line_bytes) ≡ true). inr (ltb-true size (played.written + line_bytes) t))
    (λ (f : ltb size (played.written + line_bytes) ≡ false). inl (stopped_none stops (omega (arith, ltb-false size (played.written + line_bytes) f))))

-- the records of a journal up to a place played from boot on
module _ (journal : List ℕ) (at : ℕ) {after : Tables} {records : ℕ} {text middle : List ℕ} {place : ℕ}
    (plays : Plays (take at journal) (tables_of boot) 0 text 0 after records middle place) where
  abbrev front : List ℕ
  front = take at journal

  abbrev rest : List ℕ
  rest = drop at journal

  records_are : records ≡ length (contents front).calls
  records_are = plays.counts ∙ zero-add _

  calls_split : (contents journal).calls ≡ (contents front).calls ++ (contents rest).calls
  calls_split =
      ap (λ (l : List ℕ). (contents l).calls) (sym (take-append-drop at journal))
      ∙ ap (λ (read : Contents). read.calls) (parts_read front rest)
      ∙ ap (λ (l : List ℕ). (contents front).calls ++ (contents (l ++ rest)).calls) plays.all_whole

  lines_split : replay journal ≡ lines_from (tables_of boot) 0 (contents front).calls ++ replay_from after records rest
  lines_split =
      ap replay (sym (take-append-drop at journal))
      ∙ parts_in_turn (tables_of boot) 0 front rest
      ∙ (rw (plays.all_whole, ← plays.leaves, ← plays.counts))

  events_are : take records (recorded journal) ≡ recorded front
  events_are = rw calls_split (first_events (contents front).calls (contents rest).calls records records_are)

  abbrev front_lines : List Line
  front_lines = lines_from (tables_of boot) 0 (contents front).calls

  front_long : length front_lines ≡ records
  front_long = length_lines (tables_of boot) 0 (contents front).calls ∙ sym records_are

  replays : {lines : List Line} {text_after : List ℕ} {bytes : ℕ} → Wrote text 0 (spelled_lines lines) text_after bytes → Replays journal records lines text after text_after bytes
  replays wrote =
      record {
        counts = rw (length-map (contents journal).calls hypercalls, calls_split) (omega (arith, records_are, length-append (contents front).calls (contents rest).calls));
        leaves = rw events_are plays.leaves;
        lent = subst (λ (t : Tables). LentOut t (history_of (take records (recorded journal)))) (sym (rw events_are plays.leaves)) (demand_3 (take records (recorded journal)));
        writes = wrote;
        room = rw (lines_split, take_at front_lines (replay_from after records rest) records front_long) plays.room;
      }

  -- the lines of the records done are the journal's first
  pub replays_part : Replays journal records (take records (replay journal)) text after middle place
  replays_part =
      replays (rw (lines_split, take_at front_lines (replay_from after records rest) records front_long) plays.writes)

  -- and end where these are written
  pub part_ends : place ≡ length (spelled_lines (take records (replay journal)))
  part_ends = replays_part.writes.ends ∙ zero-add _

  -- and with the last lines these are all
  module _ (none : NoRecord rest) where
    pub all_records : records ≡ length (recorded journal)
    all_records =
        let no_more : (contents rest).calls ≡ [] = ap (λ (read : Contents). read.calls) (none_read rest none (length rest)) in
        rw (length-map (contents journal).calls hypercalls, calls_split, no_more, append-nil (contents front).calls) records_are

    pub replays_all : {next : Found} {text_after : List ℕ} {bytes : ℕ} → next ≡ found_in rest → Wrote middle place (spelled_lines (stop_of next ++ (ended records ∷ []))) text_after bytes →
        Replays journal records (replay journal) text after text_after bytes
    replays_all {next} {text_after} {bytes} found other =
        let wrote : Wrote middle place (spelled_lines (last_lines (beginning rest) records)) text_after bytes =
        subst (λ (l : List Line). Wrote middle place (spelled_lines (l ++ (ended records ∷ []))) text_after bytes) (stop_of_found rest next found) other in
        replays
        (rw (lines_split, replay_none after records rest none, spelled_append (lines_from (tables_of boot) 0 (contents front).calls) (last_lines (beginning rest) records))
        (wrote_then zero-le plays.writes wrote))

  -- all are done, or there is no room for one more
  pub all_or_no_room : {size : ℕ} → NoRecord rest ⊎ (size < place + line_bytes) → (records ≡ length (recorded journal)) ⊎ (size < place + line_bytes)
  all_or_no_room (inl none) = inl (all_records none)
  all_or_no_room (inr short) = inr short

-- boot tells whether the tables have their lengths
module _ {places objects places_after objects_after : List ℕ} {reply : Reply} (booted : Booted places objects places_after objects_after reply) where
  abbrev before_boot : Tables
  before_boot = tables places objects

  pub boot_refused : is_err reply ≡ true → (sized before_boot ≡ false) × (tables places_after objects_after ≡ before_boot)
  unfolding boot_reply boot_tables
  boot_refused refused =
      cases (sized before_boot)
      (λ (t : sized before_boot ≡ true). absurd (true≢false (sym refused ∙ ap is_err booted.replies ∙ rw t)))
      (λ (f : sized before_boot ≡ false). (f, booted.leaves ∙ rw f))

  pub boot_done : is_err reply ≡ false → (sized before_boot ≡ true) × (tables places_after objects_after ≡ tables_of boot)
  unfolding boot_reply boot_tables
  boot_done done =
      cases (sized before_boot) (λ (t : sized before_boot ≡ true). (t, booted.leaves ∙ rw t))
      (λ (f : sized before_boot ≡ false). absurd (true≢false (sym (ap is_err booted.replies ∙ rw f) ∙ done)))
