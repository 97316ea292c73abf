-- The journal: records of hypercalls as bytes, and the lines that replaying them prints.
use Rattle.std.specs.Prelude.{ℕ, zero, suc, ◌+◌, ◌*◌, ◌/◌, ◌≡◌, eqb, ltb, length, take, drop, if◌then◌else◌}
use mathlib.Core.List.{List, [], ◌∷◌, ◌++◌, map, flatten}
use Rattle.io.specs.Digits.{last_digits}
use Rattle.endian.specs.Numbers.{number_at}
use Rattle.words.specs.Sizes.{block_words}
use Rattle.reply.specs.Replies.{status_of, answer_of}
use Rattle.interface.specs.Basics.{listed}
use Rattle.interface.specs.Places.{Tables, tables_of}
use Rattle.interface.specs.Boot.{boot}
use Rattle.interface.specs.Verdicts.{Call, CALL, CREATE_PD, CREATE_EC, CREATE_SC, CREATE_PT, CREATE_SM, REVOKE, LOOKUP, SM_CTRL}
use Rattle.interface.specs.Rules.{hypercall_reply, hypercall_tables}
use Rattle.interface.specs.History.{Event, hypercalls}
use Rattle.interface.specs.Demand.{tables_after_all}

-- how many bytes follow a kind byte, which is the hypercall's number: 0 for any other kind
unfoldable pub body_bytes : ℕ → ℕ
body_bytes kind =
    if eqb kind CALL then 520 else
    if eqb kind CREATE_PD then 16 else
    if eqb kind CREATE_EC then 20 else
    if eqb kind CREATE_SC then 20 else
    if eqb kind CREATE_PT then 28 else
    if eqb kind CREATE_SM then 16 else
    if eqb kind REVOKE then 12 else
    if eqb kind LOOKUP then 8 else
    if eqb kind SM_CTRL then 12 else
    0

-- a body's word, of four bytes, little-endian: the caller first, then the call's words in order
unfoldable pub body_word : List ℕ → ℕ → ℕ
body_word body i = number_at body (4 * i) 4

-- the hypercall of a record; words past the body are 0. CALL's two blocks follow its portal selector (its other words are then those of the first block, and are not read)
unfoldable pub recorded_call : ℕ → List ℕ → Call
recorded_call kind body =
    record {
      number = kind;
      caller = body_word body 0;
      first = body_word body 1;
      second = body_word body 2;
      third = body_word body 3;
      fourth = body_word body 4;
      fifth = body_word body 5;
      sixth = body_word body 6;
      source = if eqb kind CALL then listed block_words (λ i. body_word body (2 + i)) else [];
      target = if eqb kind CALL then listed block_words (λ i. body_word body (2 + block_words + i)) else [];
    }

-- a line: of a record that was done (index, kind, status, answer), of one that is short, of a kind that is none, and the last line with the number of records done
pub data Line : Type 0 where
  done : (index kind status answer : ℕ) → Line
  short : Line
  unknown : (kind : ℕ) → Line
  ended : (count : ℕ) → Line

-- what some bytes begin with: nothing, a kind that is none, a record that is short, or a whole record with its kind, its body and the bytes after it
pub data Beginning : Type 0 where
  empty : Beginning
  of_no_kind : (kind : ℕ) → Beginning
  cut_off : Beginning
  whole : (kind : ℕ) (body later : List ℕ) → Beginning

unfoldable pub beginning : List ℕ → Beginning
beginning [] = empty
beginning (kind ∷ rest) =
    if eqb (body_bytes kind) 0 then of_no_kind kind else
    if ltb (length rest) (body_bytes kind) then cut_off else
    whole kind (take (body_bytes kind) rest) (drop (body_bytes kind) rest)

-- a journal as it is read: the hypercalls of its whole records in turn, up to the first that is short or of no kind, and the bytes from there on
pub record Contents : Type 0 where
  pub calls : List Call
  pub left : List ℕ

-- by what bytes begin with: a whole record's hypercall comes first, and the bytes after it are read on; bytes that begin with no whole record are left
unfoldable pub read_by : (List ℕ → Contents) → List ℕ → Beginning → Contents
read_by read_on bytes empty = record { calls = []; left = bytes }
read_by read_on bytes (of_no_kind kind) = record { calls = []; left = bytes }
read_by read_on bytes cut_off = record { calls = []; left = bytes }
read_by read_on bytes (whole kind body later) = record { calls = recorded_call kind body ∷ (read_on later).calls; left = (read_on later).left }

-- each record takes a byte or more, so `most` is how many there may be
unfoldable pub contents_from : ℕ → List ℕ → Contents
contents_from zero bytes = record { calls = []; left = bytes }
contents_from (suc most) bytes = read_by (contents_from most) bytes (beginning bytes)

abbrev pub contents : List ℕ → Contents
contents journal = contents_from (length journal) journal

-- the events of a journal
abbrev pub recorded : List ℕ → List Event
recorded journal = map hypercalls (contents journal).calls

-- the lines of hypercalls that are done in turn, each on the tables that the one before left, from an index on
unfoldable pub lines_from : Tables → ℕ → List Call → List Line
lines_from tables index [] = []
lines_from tables index (c ∷ calls) =
    let reply = hypercall_reply tables c in
    done index c.number (status_of reply) (answer_of reply) ∷ lines_from (hypercall_tables tables c) (index + 1) calls

-- the line of what stops the reading: none at the end of the bytes
unfoldable pub stop_lines : Beginning → List Line
stop_lines empty = []
stop_lines (of_no_kind kind) = unknown kind ∷ []
stop_lines cut_off = short ∷ []
stop_lines (whole kind body later) = []

-- the last lines: that of what stops the reading, and the number of records done
abbrev pub last_lines : Beginning → ℕ → List Line
last_lines stop count = stop_lines stop ++ (ended count ∷ [])

-- the lines of a journal's bytes from some tables and index on
unfoldable pub replay_from : Tables → ℕ → List ℕ → List Line
replay_from tables index bytes =
    let read = contents bytes in
    lines_from tables index read.calls ++ last_lines (beginning read.left) (index + length read.calls)

-- the lines of a journal, from boot on
abbrev pub replay : List ℕ → List Line
replay journal = replay_from (tables_of boot) 0 journal

-- a journal that is read in pieces: each is read with the bytes that the ones before left, from the tables and the index that they came to
unfoldable pub replay_pieces : Tables → ℕ → List ℕ → List (List ℕ) → List Line
replay_pieces tables index left [] = last_lines (beginning left) index
replay_pieces tables index left (piece ∷ pieces) =
    let bytes = left ++ piece in
    let read = contents bytes in
    lines_from tables index read.calls ++
    replay_pieces (tables_after_all tables (recorded bytes)) (index + length read.calls) read.left pieces

-- the lines of a journal are those of the whole records of a first part of it, and then those of what this part leaves and the rest of the journal, from the tables and the
-- index after those records
abbrev pub PartsInTurn : Type 0
PartsInTurn =
    (tables : Tables) (index : ℕ) (first rest : List ℕ) →
    replay_from tables index (first ++ rest) ≡
    lines_from tables index (contents first).calls ++
    replay_from (tables_after_all tables (recorded first)) (index + length (contents first).calls) ((contents first).left ++ rest)

-- in whatever pieces a journal is read, its lines are the same
abbrev pub PiecesInTurn : Type 0
PiecesInTurn = (pieces : List (List ℕ)) → replay_pieces (tables_of boot) 0 [] pieces ≡ replay (flatten pieces)

-- how many decimal digits a number has, of at most `most`
unfoldable pub width : ℕ → ℕ → ℕ
width zero number = 0
width (suc most) number = if ltb number 10 then 1 else suc (width most (number / 10))

-- a number below 2 ^ 64 in decimal
abbrev pub decimal : ℕ → List ℕ
decimal number = last_digits 10 (width 20 number) number

-- the ASCII of a space and of a line end
abbrev pub blank : ℕ
blank = 32

abbrev pub newline : ℕ
newline = 10

-- the text of a line, as ASCII, with its line end: the numbers of a record that was done, "cut", "bad" and the kind, "end" and the count
unfoldable pub spelled : Line → List ℕ
spelled (done index kind status answer) =
    decimal index ++ (blank ∷ []) ++ decimal kind ++ (blank ∷ []) ++ decimal status ++ (blank ∷ []) ++ decimal answer ++ (newline ∷ [])
spelled short = 99 ∷ 117 ∷ 116 ∷ newline ∷ []
spelled (unknown kind) = 98 ∷ 97 ∷ 100 ∷ blank ∷ [] ++ decimal kind ++ (newline ∷ [])
spelled (ended count) = 101 ∷ 110 ∷ 100 ∷ blank ∷ [] ++ decimal count ++ (newline ∷ [])

unfoldable pub spelled_lines : List Line → List ℕ
spelled_lines [] = []
spelled_lines (line ∷ lines) = spelled line ++ spelled_lines lines
