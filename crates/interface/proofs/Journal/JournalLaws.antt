-- A journal as it is read: whole records in turn, read in pieces, and done on the states that the tables show.
use Prim.Native.Nat.{ℕ, zero, suc, ◌+◌, ◌≤◌, ◌<◌}
use mathlib.Core.Path.{◌≡◌, refl, sym, ap, ap₂, ◌∙◌, subst}
use mathlib.Core.Bool.{true, false}
use mathlib.Core.List.{List, [], ◌∷◌, ◌++◌, map, flatten, append_assoc, append-nil}
use native.Mathlib.Nat.{add_assoc, add-zero, le_refl}
use native.Mathlib.Omega.{arith}
use lib.Dec.{eqb, ltb}
use lib.ListN.{length, take, drop, length-append, take-append-drop}
use lib.Seq.{length-take-le, take_at, drop_at}
use borrow.Author.Tests.{ltb-false, le-ltb}
use Rattle.reply.specs.Replies.{status_of, answer_of}
use Rattle.interface.specs.Places.{State, Tables, tables_of}
use Rattle.interface.specs.Boot.{boot}
use Rattle.interface.specs.Effects.{run}
use Rattle.interface.specs.Verdicts.{Call, reply_of, effects_of}
use Rattle.interface.specs.Rules.{hypercall, called, judged, hypercall_tables}
use Rattle.interface.specs.History.{History, hypercalls, told, tell, boot_history}
use Rattle.interface.specs.Demand.{tables_after, tables_after_all}
use Rattle.interface.specs.Journal.{body_bytes, recorded_call, Line, done, spelled, spelled_lines, Beginning, empty, of_no_kind, cut_off, whole, beginning, Contents, read_by, contents_from, contents, recorded, lines_from, last_lines, replay_from, replay, replay_pieces, PartsInTurn, PiecesInTurn}
use Rattle.interface.proofs.Basics.BoolLaws.{cases}
use Rattle.interface.proofs.Sound.Soundness.{Sound, sound_facts, facts_sound}
use Rattle.interface.proofs.Tables.VerdictLaws.{sound_rules, after_verdict}
use Rattle.interface.proofs.History.HistoryLaws.{Valid}
use Rattle.interface.proofs.History.BootLaws.{boot_sound, boot_follows}
use Rattle.interface.proofs.History.LentOutLaws.{told_ends}
use Rattle.interface.proofs.History.DemandLaws.{after_sound, tell_follows}
use Rattle.interface.proofs.Tables.ShownLaws.{judged_shown, tables_shown}

-- a whole record: its kind is one, and its body has its length
pub record IsRecord (kind : ℕ) (body : List ℕ) : Type 0 where
  pub is_kind : eqb (body_bytes kind) 0 ≡ false
  pub is_size : length body ≡ body_bytes kind

-- bytes begin with a whole record just where they are a record and the bytes after it
pub whole_begins : (bytes : List ℕ) (kind : ℕ) (body later : List ℕ) → beginning bytes ≡ whole kind body later → IsRecord kind body × (bytes ≡ kind ∷ (body ++ later))
unfolding beginning
whole_begins [] kind body later e = let z : ◌≡◌ {A = ℕ} 0 1 = cc in absurd (omega arith)
whole_begins (first ∷ rest) kind body later e =
    cases (eqb (body_bytes first) 0)
    (λ (t : eqb (body_bytes first) 0 ≡ true).
    let f : of_no_kind first ≡ whole kind body later = rw t at e in
    let z : ◌≡◌ {A = ℕ} 0 1 = cc in absurd (omega arith))
    (λ (known : eqb (body_bytes first) 0 ≡ false).
    cases (ltb (length rest) (body_bytes first))
    (λ (t : ltb (length rest) (body_bytes first) ≡ true).
    let f : cut_off ≡ whole kind body later = rw (known, t) at e in
    let z : ◌≡◌ {A = ℕ} 0 1 = cc in absurd (omega arith))
    (λ (fits : ltb (length rest) (body_bytes first) ≡ false).
    let f : whole first (take (body_bytes first) rest) (drop (body_bytes first) rest) ≡ whole kind body later = rw (known, fits) at e in
    let kinds : first ≡ kind = cc in
    let bodies : take (body_bytes first) rest ≡ body = cc in
    let laters : drop (body_bytes first) rest ≡ later = cc in
    let sized : length (take (body_bytes first) rest) ≡ body_bytes first =
    length-take-le (body_bytes first) rest (ltb-false (length rest) (body_bytes first) fits) in (
      record { is_kind = rw kinds at known; is_size = sym (ap length bodies) ∙ sized ∙ ap body_bytes kinds },
      ap₂ (λ (k : ℕ) (l : List ℕ). k ∷ l) kinds (sym (take-append-drop (body_bytes first) rest) ∙ ap₂ ◌++◌ bodies laters),
    )))

module _ (kind : ℕ) (body later : List ℕ) (one : IsRecord kind body) where
  pub record_begins : beginning (kind ∷ (body ++ later)) ≡ whole kind body later
  unfolding beginning
  record_begins =
      let size = one.is_size in
      let long = length-append body later in
      let taken : take (body_bytes kind) (body ++ later) ≡ body = take_at body later (body_bytes kind) size in
      let dropped : drop (body_bytes kind) (body ++ later) ≡ later = drop_at body later (body_bytes kind) size in
      rw (one.is_kind, le-ltb (length (body ++ later)) (body_bytes kind) (omega arith), taken, dropped)

-- what comes after a whole record is shorter
later_shorter : (bytes : List ℕ) (kind : ℕ) (body later : List ℕ) → beginning bytes ≡ whole kind body later → length later < length bytes
later_shorter bytes kind body later e =
    let shape = ap length (whole_begins bytes kind body later e).1 in
    let long = length-append body later in omega arith

-- bytes that begin with no whole record are left as they are
abbrev pub NoRecord : List ℕ → Type 0
NoRecord bytes = (kind : ℕ) (body later : List ℕ) → beginning bytes ≡ whole kind body later → ⊥

read_none : (f : List ℕ → Contents) (bytes : List ℕ) (b : Beginning) → ((kind : ℕ) (body later : List ℕ) → b ≡ whole kind body later → ⊥) →
    read_by f bytes b ≡ record { calls = []; left = bytes }
unfolding read_by
read_none f bytes empty none = refl
read_none f bytes (of_no_kind kind) none = refl
read_none f bytes cut_off none = refl
read_none f bytes (whole kind body later) none = absurd (none kind body later refl)

pub none_read : (bytes : List ℕ) → NoRecord bytes → (m : ℕ) → contents_from m bytes ≡ record { calls = []; left = bytes }
unfolding contents_from
none_read bytes none zero = refl
none_read bytes none (suc m) = read_none (contents_from m) bytes (beginning bytes) none

-- bytes are read on alike where those after their first record are
read_same : (f g : List ℕ → Contents) (bytes : List ℕ) (b : Beginning) → ((kind : ℕ) (body later : List ℕ) → b ≡ whole kind body later → f later ≡ g later) →
    read_by f bytes b ≡ read_by g bytes b
unfolding read_by
read_same f g bytes empty same = refl
read_same f g bytes (of_no_kind kind) same = refl
read_same f g bytes cut_off same = refl
read_same f g bytes (whole kind body later) same = rw (same kind body later refl)

-- as many records as there are bytes are enough
enough : (m n : ℕ) (bytes : List ℕ) → length bytes ≤ m → length bytes ≤ n → contents_from m bytes ≡ contents_from n bytes
unfolding contents_from read_by beginning
enough zero zero bytes p q = refl
enough zero (suc n) [] p q = refl
enough zero (suc n) (kind ∷ rest) p q = absurd (omega arith)
enough (suc m) zero [] p q = refl
enough (suc m) zero (kind ∷ rest) p q = absurd (omega arith)
enough (suc m) (suc n) bytes p q =
    read_same (contents_from m) (contents_from n) bytes (beginning bytes)
    (λ kind body later e. enough m n later (omega (arith, later_shorter bytes kind body later e)) (omega (arith, later_shorter bytes kind body later e)))

-- a whole record is read first
pub record_read : (kind : ℕ) (body later : List ℕ) → IsRecord kind body →
    contents (kind ∷ (body ++ later)) ≡ record { calls = recorded_call kind body ∷ (contents later).calls; left = (contents later).left }
unfolding contents_from read_by
record_read kind body later one =
    let long = length-append body later in
    rw (record_begins kind body later one, enough (length (body ++ later)) (length later) later (omega arith) (omega arith))

-- what holds of bytes that begin with no whole record, and of a whole record before bytes of which it holds, holds of any bytes
module _ (P : List ℕ → Type 0) (none : (bytes : List ℕ) → NoRecord bytes → P bytes)
    (more : (kind : ℕ) (body later : List ℕ) → IsRecord kind body → P later → P (kind ∷ (body ++ later))) where
  record_by_record_from : (bytes : List ℕ) (b : Beginning) → beginning bytes ≡ b → ((later : List ℕ) → length later < length bytes → P later) → P bytes
  record_by_record_from bytes empty e shorter = none bytes (λ kind body later f. let z : ◌≡◌ {A = ℕ} 0 1 = cc in omega arith)
  record_by_record_from bytes (of_no_kind kind) e shorter = none bytes (λ kind body later f. let z : ◌≡◌ {A = ℕ} 0 1 = cc in omega arith)
  record_by_record_from bytes cut_off e shorter = none bytes (λ kind body later f. let z : ◌≡◌ {A = ℕ} 0 1 = cc in omega arith)
  record_by_record_from bytes (whole kind body later) e shorter =
      let begins = whole_begins bytes kind body later e in
      subst P (sym begins.1) (more kind body later begins.0 (shorter later (later_shorter bytes kind body later e)))

  record_by_record_within : (m : ℕ) (bytes : List ℕ) → length bytes ≤ m → P bytes
  record_by_record_within zero bytes l = record_by_record_from bytes (beginning bytes) refl (λ later shorter. absurd (omega arith))
  record_by_record_within (suc m) bytes l =
      record_by_record_from bytes (beginning bytes) refl (λ later shorter. record_by_record_within m later (omega arith))

  pub record_by_record : (bytes : List ℕ) → P bytes
  record_by_record bytes = record_by_record_within (length bytes) bytes (le_refl _)

-- bytes are read in two parts: the whole records of the first, and then what it leaves with the second
abbrev Parts : List ℕ → List ℕ → Type 0
Parts rest first =
    contents (first ++ rest) ≡
    record { calls = (contents first).calls ++ (contents ((contents first).left ++ rest)).calls; left = (contents ((contents first).left ++ rest)).left }

pub parts_read : (first rest : List ℕ) → Parts rest first
parts_read first rest =
    record_by_record (Parts rest)
    (λ bytes none. rw (none_read bytes none (length bytes)))
    (λ kind body later one parts.
    rw (record_read kind body later one, append_assoc body later rest, record_read kind body (later ++ rest) one, parts))
    first

-- a whole record after whole records is read last
pub record_added : (front : List ℕ) (kind : ℕ) (body : List ℕ) → (contents front).left ≡ [] → IsRecord kind body →
    contents (front ++ (kind ∷ body)) ≡ record { calls = (contents front).calls ++ (recorded_call kind body ∷ []); left = [] }
unfolding contents_from
record_added front kind body none one =
    let alone : contents (kind ∷ body) ≡ record { calls = recorded_call kind body ∷ []; left = [] } = rw append-nil at (record_read kind body [] one) in
    rw (parts_read front (kind ∷ body), none, alone)

-- what is left begins with no whole record
pub left_none : (bytes : List ℕ) → NoRecord (contents bytes).left
left_none =
    record_by_record (λ bytes. NoRecord (contents bytes).left)
    (λ bytes none. subst (λ (read : Contents). NoRecord read.left) (sym (none_read bytes none (length bytes))) none)
    (λ kind body later one none. subst (λ (read : Contents). NoRecord read.left) (sym (record_read kind body later one)) none)

-- the tables, the lines and the texts of two lists in turn
pub tables_append : (tables : Tables) (first second : List Call) →
    tables_after_all tables (map hypercalls (first ++ second)) ≡ tables_after_all (tables_after_all tables (map hypercalls first)) (map hypercalls second)
unfolding tables_after_all
tables_append tables [] second = refl
tables_append tables (c ∷ first) second = tables_append (tables_after tables (hypercalls c)) first second

pub lines_append : (tables : Tables) (index : ℕ) (first second : List Call) →
    lines_from tables index (first ++ second) ≡
    lines_from tables index first ++ lines_from (tables_after_all tables (map hypercalls first)) (index + length first) second
unfolding lines_from tables_after_all tables_after
lines_append tables index [] second = rw (add-zero index)
lines_append tables index (c ∷ first) second =
    let next : index + 1 + length first ≡ index + suc (length first) = omega arith in
    rw (lines_append (hypercall_tables tables c) (index + 1) first second, next)

-- each call has a line
pub length_lines : (tables : Tables) (index : ℕ) (calls : List Call) → length (lines_from tables index calls) ≡ length calls
unfolding lines_from
length_lines tables index [] = refl
length_lines tables index (c ∷ calls) = ap suc (length_lines (hypercall_tables tables c) (index + 1) calls)

pub spelled_append : (first second : List Line) → spelled_lines (first ++ second) ≡ spelled_lines first ++ spelled_lines second
unfolding spelled_lines
spelled_append [] second = refl
spelled_append (line ∷ first) second = rw (spelled_append first second, append_assoc (spelled line) (spelled_lines first) (spelled_lines second))

pub parts_in_turn : PartsInTurn
unfolding replay_from
parts_in_turn tables index first rest =
    let calls = (contents first).calls in
    let later = (contents ((contents first).left ++ rest)).calls in
    rw (
      parts_read first rest,
      lines_append tables index calls later,
      length-append calls later,
      append_assoc (lines_from tables index calls),
      ← add_assoc index (length calls) (length later),
    )

-- bytes that begin with no whole record have the last lines alone
pub replay_none : (tables : Tables) (index : ℕ) (bytes : List ℕ) → NoRecord bytes → replay_from tables index bytes ≡ last_lines (beginning bytes) index
unfolding replay_from lines_from
replay_none tables index bytes none = rw (none_read bytes none (length bytes), add-zero index)

-- pieces in turn, from any bytes that begin with no whole record
pieces_from : (pieces : List (List ℕ)) (tables : Tables) (index : ℕ) (left : List ℕ) → NoRecord left →
    replay_pieces tables index left pieces ≡ replay_from tables index (left ++ flatten pieces)
unfolding replay_pieces flatten
pieces_from [] tables index left none = rw (append-nil left) (sym (replay_none tables index left none))
pieces_from (piece ∷ pieces) tables index left none =
    let bytes = left ++ piece in
    ap (λ (l : List Line). lines_from tables index (contents bytes).calls ++ l)
    (pieces_from pieces (tables_after_all tables (recorded bytes)) (index + length (contents bytes).calls) (contents bytes).left (left_none bytes))
    ∙ sym (parts_in_turn tables index bytes (flatten pieces))
    ∙ ap (replay_from tables index) (append_assoc left piece (flatten pieces))

pub pieces_in_turn : PiecesInTurn
unfolding beginning
pieces_in_turn pieces = pieces_from pieces (tables_of boot) 0 [] (λ kind body later e. let z : ◌≡◌ {A = ℕ} 0 1 = cc in omega arith)

-- the lines of hypercalls on sound states, which are not tested for damage, and of a journal, from boot on
unfoldable pub state_lines : State → ℕ → List Call → List Line
state_lines s index [] = []
state_lines s index (c ∷ calls) =
    let verdict = called s c (hypercall c.number) in
    let reply = reply_of verdict in
    done index c.number (status_of reply) (answer_of reply) ∷ state_lines (run (effects_of verdict) s) (index + 1) calls

abbrev pub state_replay : List ℕ → List Line
state_replay journal =
    let read = contents journal in state_lines boot 0 read.calls ++ last_lines (beginning read.left) (0 + length read.calls)

-- tables that show a history's state have the same lines
lines_shown : (calls : List Call) (tables : Tables) (index : ℕ) (h : History) → tables ≡ tables_of (told h) → Valid h → Sound (told h) →
    lines_from tables index calls ≡ state_lines (told h) index calls
unfolding lines_from state_lines
lines_shown [] tables index h e valid sound = refl
lines_shown (c ∷ calls) tables index h e valid sound =
    let follows = tell_follows h c valid sound in
    let ruled = sound_rules (told h) c (facts_sound (told h) sound) in
    let verdict : judged tables c ≡ called (told h) c (hypercall c.number) = ap (λ (t : Tables). judged t c) e ∙ judged_shown (told h) (told_ends h valid) c ∙ ruled in
    let later = lines_shown calls (hypercall_tables tables c) (index + 1) (tell h (hypercalls c))
    (ap (λ (t : Tables). hypercall_tables t c) e ∙ tables_shown (told h) (told_ends h valid) c ∙ ap tables_of (sym follows.0))
    follows.1
    (subst Sound (sym follows.0) (after_sound (told h) c sound)) in
    rw (verdict, later, follows.0, after_verdict (told h) c (called (told h) c (hypercall c.number)) ruled)

-- so a journal's lines are those on the states from boot on
pub replay_shown : (journal : List ℕ) → replay journal ≡ state_replay journal
unfolding replay_from
replay_shown journal =
    let calls = (contents journal).calls in
    let same : lines_from (tables_of boot) 0 calls ≡ state_lines (told boot_history) 0 calls =
    lines_shown calls (tables_of boot) 0 boot_history (ap tables_of (sym boot_follows.0)) boot_follows.1
    (subst Sound (sym boot_follows.0) (sound_facts boot boot_sound)) in
    rw (same ∙ ap (λ (s : State). state_lines s 0 calls) boot_follows.0)
