-- The texts of a line one after the other are the line, and where a page's lines stand among them all.
use Prim.Native.Nat.{ℕ, zero, suc, ◌+◌, ◌-◌, ◌*◌, ◌^◌, ◌≤◌, ◌<◌}
use mathlib.Core.Path.{◌≡◌, refl, sym, ap, ◌∙◌}
use mathlib.Core.Bool.{true}
use mathlib.Core.Logic.{⊎_elim}
use mathlib.Core.List.{List, [], ◌∷◌, ◌++◌, append_assoc, append-nil, flatten}
use native.Mathlib.Nat.{zero-add}
use native.Mathlib.Omega.{arith}
use lib.IntN.{ℤ, pos, negsuc}
use lib.ListN.{length, take, drop, get_or, length-append, get_or-append, length-drop}
use lib.Seq.{get_or-append-add, take-suc, get_or-drop}
use mir.Syntax.{w32}
use mir.Val.{SFits, to_z, of_z}
use mir.Facts.{to_z-of_z}
use borrow.Author.Tests.{eq-eqb, ne_eqb}
use Rattle.endian.specs.Parts.{AreBytes}
use Rattle.endian.specs.Runs.{spaced}
use Rattle.endian.proofs.NumberLaws.{number_below}
use Rattle.endian.proofs.RunLaws.{length_spaced}
use Rattle.interface.specs.Journal.{decimal}
use Rattle.hip_format.specs.Format.{type_allowed}
use Rattle.hip_format.specs.Reader.{checksum_field, length_field, memory_offset, cpu_at, memory_at, contents_of, types_allowed, refused, judged, summary, reading}
use Rattle.hip_format.specs.declared.Header.{Header}
use Rattle.hip_format.specs.declared.Cpu.{Cpu}
use Rattle.hip_format.specs.declared.Memory.{Memory}
use Rattle.hip_format.specs.declared.Refusal.{Refusal}
use Rattle.hip_format.specs.declared.Summary.{Summary}
use Rattle.std.specs.Prelude.{Ok}
use Rattle.hip_format.proofs.FieldLaws.{and_left, and_right}
use Rattle.hip_format.proofs.JudgeLaws.{typed_of}
use Rattle.hip_format.proofs.TypeLaws.{type_exactly}
use Rattle.hip_reader.proofs.ReadLaws.{accepts}
use Rattle.texts.specs.Texts.{padded, Wrote}
use Rattle.texts.proofs.DecimalLaws.{decimal_at_most}
use Rattle.texts.proofs.TextLaws.{wrote_then, wrote_same, wrote_nothing, length_padded}
use Rattle.hip_text.specs.PageText.{column, hex, hex_column, line_end, gap, refusal_line, title_line, bits_line, number_line, frequency_line, header_lines, table, rows_from, no_cpu, cpu_heads, cpu_row, cpu_lines, type_end, no_memory, memory_heads, memory_row, memory_lines, page_lines, line_bytes, text_between, Spells}

-- a number that its column has room for fills it
pub length_column : (width number : ℕ) → 0 < width → number < 10 ^ width → length (padded width (decimal number)) ≡ width
length_column zero number some small = absurd (omega arith)
length_column (suc k) number some small = length_padded (suc k) (decimal number) ∙ omega (arith, decimal_at_most k number small)

module _ {before : List ℕ} {at : ℕ} (fits : at ≤ length before) where
  -- three texts, one after the other
  wrote_three : {first second third m1 m2 after : List ℕ} {n1 n2 end : ℕ} → Wrote before at first m1 n1 → Wrote m1 n1 second m2 n2 → Wrote m2 n2 third after end →
      Wrote before at (first ++ second ++ third) after end
  wrote_three one two three = wrote_then fits (wrote_then fits one two) three

  pub wrote_title : (bytes checksum : ℕ) {m1 m2 m3 m4 after : List ℕ} {n1 n2 n3 n4 end : ℕ} →
      Wrote before at (105 ∷ 110 ∷ 102 ∷ 111 ∷ 114 ∷ 109 ∷ 97 ∷ 116 ∷ 105 ∷ 111 ∷ 110 ∷ 32 ∷ 112 ∷ 97 ∷ 103 ∷ 101 ∷ 32 ∷ 111 ∷ 102 ∷ 32 ∷ []) m1 n1 →
      Wrote m1 n1 (decimal bytes) m2 n2 →
      Wrote m2 n2 (32 ∷ 98 ∷ 121 ∷ 116 ∷ 101 ∷ 115 ∷ 44 ∷ 32 ∷ 99 ∷ 104 ∷ 101 ∷ 99 ∷ 107 ∷ 115 ∷ 117 ∷ 109 ∷ 32 ∷ []) m3 n3 →
      Wrote m3 n3 (decimal checksum) m4 n4 → Wrote m4 n4 line_end after end → Wrote before at (title_line bytes checksum) after end
  unfolding title_line
  wrote_title bytes checksum one two three four five = wrote_then fits (wrote_then fits (wrote_three one two three) four) five

  pub wrote_bits : (name : List ℕ) (value : ℕ) {m1 m2 after : List ℕ} {n1 n2 end : ℕ} →
      Wrote before at name m1 n1 → Wrote m1 n1 (hex 8 value) m2 n2 → Wrote m2 n2 line_end after end → Wrote before at (bits_line name value) after end
  unfolding bits_line
  wrote_bits name value one two three = wrote_three one two three

  pub wrote_number : (name : List ℕ) (value : ℕ) {m1 m2 after : List ℕ} {n1 n2 end : ℕ} →
      Wrote before at name m1 n1 → Wrote m1 n1 (decimal value) m2 n2 → Wrote m2 n2 line_end after end → Wrote before at (number_line name value) after end
  unfolding number_line
  wrote_number name value one two three = wrote_three one two three

  pub wrote_frequency : (name : List ℕ) (value : ℕ) {m1 m2 m3 after : List ℕ} {n1 n2 n3 end : ℕ} →
      Wrote before at name m1 n1 → Wrote m1 n1 (decimal value) m2 n2 → Wrote m2 n2 (32 ∷ 107 ∷ 72 ∷ 122 ∷ []) m3 n3 → Wrote m3 n3 line_end after end →
      Wrote before at (frequency_line name value) after end
  unfolding frequency_line
  wrote_frequency name value one two three four = wrote_then fits (wrote_three one two three) four

  pub wrote_hex_column : (count number : ℕ) {m1 after : List ℕ} {n1 end : ℕ} → Wrote before at gap m1 n1 → Wrote m1 n1 (hex count number) after end →
      Wrote before at (hex_column count number) after end
  unfolding hex_column
  wrote_hex_column count number one two = wrote_then fits one two

  pub wrote_cpu : (index : ℕ) (cpu : Cpu) {m1 m2 m3 m4 m5 after : List ℕ} {n1 n2 n3 n4 n5 end : ℕ} →
      Wrote before at (column 5 index) m1 n1 → Wrote m1 n1 (column 9 cpu.«package») m2 n2 → Wrote m2 n2 (column 6 cpu.core) m3 n3 →
      Wrote m3 n3 (column 8 cpu.thread) m4 n4 → Wrote m4 n4 (column 7 cpu.flags) m5 n5 → Wrote m5 n5 line_end after end → Wrote before at (cpu_row index cpu) after end
  unfolding cpu_row
  wrote_cpu index cpu one two three four five six = wrote_then fits (wrote_then fits (wrote_then fits (wrote_three one two three) four) five) six

  pub wrote_memory : (index : ℕ) (memory : Memory) {m1 m2 m3 m4 after : List ℕ} {n1 n2 n3 n4 end : ℕ} →
      Wrote before at (column 5 index) m1 n1 → Wrote m1 n1 (hex_column 16 memory.address) m2 n2 → Wrote m2 n2 (column 22 memory.size) m3 n3 →
      Wrote m3 n3 (hex_column 8 memory.auxiliary) m4 n4 → Wrote m4 n4 (type_end memory.kind) after end → Wrote before at (memory_row index memory) after end
  unfolding memory_row
  wrote_memory index memory one two three four five = wrote_then fits (wrote_then fits (wrote_three one two three) four) five

-- a line by its number
pub line_is : (lines : List (List ℕ)) (index other : ℕ) {before after : List ℕ} {at end : ℕ} → index ≡ other → Wrote before at (get_or lines other []) after end →
    Wrote before at (get_or lines index []) after end
line_is lines index other same wrote = rw same wrote

-- the field that is left where it is none of the nine others
past_five : (index : ℕ) → (index ≡ 0 → ⊥) → (index ≡ 1 → ⊥) → (index ≡ 2 → ⊥) → (index ≡ 3 → ⊥) → (index ≡ 4 → ⊥) → 5 ≤ index
past_five index a b c d e = omega arith

nine : (index : ℕ) → 5 ≤ index → index < 10 → (index ≡ 5 → ⊥) → (index ≡ 6 → ⊥) → (index ≡ 7 → ⊥) → (index ≡ 8 → ⊥) → index ≡ 9
nine index past few a b c d = omega arith

pub last_field : (index : ℕ) → index < 10 → (index ≡ 0 → ⊥) → (index ≡ 1 → ⊥) → (index ≡ 2 → ⊥) → (index ≡ 3 → ⊥) → (index ≡ 4 → ⊥) → (index ≡ 5 → ⊥) → (index ≡ 6 → ⊥) →
    (index ≡ 7 → ⊥) → (index ≡ 8 → ⊥) → index ≡ 9
last_field index few a b c d e f g h i = nine index (past_five index a b c d e) few f g h i

-- the rows of a table
module _ {A : Type 0} (row : ℕ → A → List ℕ) where
  length_rows : (index : ℕ) (list : List A) → length (rows_from row index list) ≡ length list
  unfolding rows_from
  length_rows index [] = refl
  length_rows index (one ∷ others) = ap suc (length_rows (index + 1) others)

  row_at : (what : ℕ → A) (distance count start first index : ℕ) → index < count →
      row (first + index) (what (start + distance * index)) ≡ get_or (rows_from row first (spaced what start distance count)) index []
  unfolding rows_from spaced
  row_at what distance zero start first index inside = absurd (omega arith)
  row_at what distance (suc count) start first zero inside =
      let same : start + distance * 0 ≡ start = omega arith in
      let here : first + 0 ≡ first = omega arith in
      rw (same, here)
  row_at what distance (suc count) start first (suc index) inside =
      let same : start + distance * suc index ≡ start + distance + distance * index = omega arith in
      let here : first + suc index ≡ first + 1 + index = omega arith in
      rw (same, here) (row_at what distance count (start + distance) (first + 1) index (omega arith))

-- the lines above the rows of a table
module _ (none heads : List ℕ) (rows : List (List ℕ)) (count index : ℕ) {before after : List ℕ} {at end : ℕ} where
  pub above_first : index ≡ 0 → Wrote before at line_end after end → Wrote before at (get_or (table none heads rows) index []) after end
  unfolding table
  above_first first wrote = rw first wrote

  pub above_none : index ≡ 1 → length rows ≡ count → count ≡ 0 → Wrote before at none after end → Wrote before at (get_or (table none heads rows) index []) after end
  unfolding table
  above_none second counted no_row wrote = rw (second, counted, eq-eqb count 0 no_row) wrote

  pub above_heads : index ≡ 1 → length rows ≡ count → (count ≡ 0 → ⊥) → Wrote before at heads after end → Wrote before at (get_or (table none heads rows) index []) after end
  unfolding table
  above_heads second counted some wrote = rw (second, counted, ne_eqb count 0 some) wrote

-- the lines of a table
module _ {A : Type 0} (row : ℕ → A → List ℕ) (what : ℕ → A) (start distance count : ℕ) (none heads : List ℕ) where
  abbrev table_of : List (List ℕ)
  table_of = table none heads (rows_from row 0 (spaced what start distance count))

  pub rows_counted : length (rows_from row 0 (spaced what start distance count)) ≡ count
  rows_counted = length_rows row 0 (spaced what start distance count) ∙ length_spaced what start distance count

  table_counted : length table_of ≡ 2 + count
  unfolding table
  table_counted = rw rows_counted (omega arith)

  pub line_row : (index number : ℕ) {before after : List ℕ} {at end : ℕ} → index ≡ 2 + number → number < count →
      Wrote before at (row number (what (start + distance * number))) after end → Wrote before at (get_or table_of index []) after end
  unfolding table
  line_row index number later inside wrote =
      let two : 2 + number ≡ suc (suc number) = omega arith in
      let here : 0 + number ≡ number = omega arith in
      rw (later, two) (wrote_same (rw here at (row_at row what distance count start 0 number inside)) wrote)

-- the type of a range of a page whose types are allowed
pub type_at : (what : ℕ → Memory) (distance count start index : ℕ) → index < count → types_allowed (spaced what start distance count) ≡ true →
    type_allowed (what (start + distance * index)).kind ≡ true
unfolding types_allowed spaced
type_at what distance zero start index inside t = absurd (omega arith)
type_at what distance (suc count) start zero inside t =
    let same : start + distance * 0 ≡ start = omega arith in
    rw same (and_left (type_allowed (what start).kind) (types_allowed (spaced what (start + distance) distance count)) t)
type_at what distance (suc count) start (suc index) inside t =
    let same : start + distance * suc index ≡ start + distance + distance * index = omega arith in
    rw same (type_at what distance count (start + distance) index (omega arith) (and_right (type_allowed (what start).kind) (types_allowed (spaced what (start + distance) distance count)) t))

-- a line of a list that has a first one, so many after it, some more, and others
module _ (title : List ℕ) (fields cpus memories : List (List ℕ)) (index : ℕ) where
  abbrev parts : List (List ℕ)
  parts = title ∷ (fields ++ (cpus ++ memories))

  part_field : (below : ℕ) → index ≡ suc below → below < length fields → get_or fields below [] ≡ get_or parts index []
  part_field below e inside = rw e (sym (get_or-append fields (cpus ++ memories) [] below inside))

  part_cpu : (below : ℕ) → index ≡ suc (length fields + below) → below < length cpus → get_or cpus below [] ≡ get_or parts index []
  part_cpu below e inside = rw e (sym (get_or-append-add fields (cpus ++ memories) below [] ∙ get_or-append cpus memories [] below inside))

  part_memory : (below : ℕ) → index ≡ suc (length fields + (length cpus + below)) → get_or memories below [] ≡ get_or parts index []
  part_memory below e = rw e (sym (get_or-append-add fields (cpus ++ memories) (length cpus + below) [] ∙ get_or-append-add cpus memories below []))

-- what a page's summary says of its lines
pub record Page (bytes : List ℕ) (found : Summary) : Type 0 where
  pub lines : page_lines bytes ≡
      title_line (length bytes) (checksum_field bytes) ∷
      (header_lines found.header ++
      (cpu_lines (spaced (cpu_at bytes) 56 4 found.cpus) ++ memory_lines (spaced (memory_at bytes) (56 + 4 * found.cpus) 24 found.memories)))
  pub whole : 56 + 4 * found.cpus + 24 * found.memories ≡ length bytes
  pub typed : types_allowed (spaced (memory_at bytes) (56 + 4 * found.cpus) 24 found.memories) ≡ true
  pub measured : length_field bytes ≡ length bytes

pub page : (bytes : List ℕ) (found : Summary) → Ok found ≡ reading (judged bytes) → Page bytes found
unfolding page_lines contents_of
page bytes found e =
    let told = accepts bytes found (Ok found) e refl in
    let typed = typed_of bytes (contents_of bytes) told.is_page in
    let read : reading (judged bytes) ≡ Ok (summary (contents_of bytes)) = ap reading told.is_page in
    let same : found ≡ summary (contents_of bytes) = cc in
    let cpus : length (contents_of bytes).cpus ≡ found.cpus = told.cpus_read in
    let memories : length (contents_of bytes).memories ≡ found.memories = told.memories_read in
    let cpu_count_lem = sym (length_spaced (cpu_at bytes) 56 4 _) ∙ cpus in
    let memory_count_lem = sym (length_spaced (memory_at bytes) (memory_offset bytes) 24 _) ∙ memories in
    record {
      lines = (rw (told.is_page, told.cpus_end, ← cpu_count_lem, ← memory_count_lem) (ap (λ (s : Summary). title_line (length bytes) (checksum_field bytes) ∷
          (header_lines s.header ++ (cpu_lines (contents_of bytes).cpus ++ memory_lines (contents_of bytes).memories))) (sym same)));
      whole = ap (λ (k : ℕ). k + 24 * found.memories) told.cpus_end ∙ told.memories_end;
      typed = (rw (told.cpus_end, ← memory_count_lem) typed.1);
      measured = typed.0.0.0.1;
    }

-- a type by its bits, and the one that is left where it is none of the five others
pub type_by_bits : (kind other : ℤ) (bits : ℕ) → SFits w32 kind → of_z w32 kind ≡ bits → to_z w32 bits ≡ other → kind ≡ other
type_by_bits kind other bits fits e same = sym (to_z-of_z fits) ∙ ap (to_z w32) e ∙ same

pub type_left : (kind : ℤ) → type_allowed kind ≡ true → (of_z w32 kind ≡ 4294967294 → ⊥) → (of_z w32 kind ≡ 4294967295 → ⊥) → (of_z w32 kind ≡ 1 → ⊥) → (of_z w32 kind ≡ 2 → ⊥) →
    (of_z w32 kind ≡ 3 → ⊥) → kind ≡ pos 4
type_left kind allowed a b c d e =
    ⊎_elim (λ (k : kind ≡ negsuc 1). absurd (a (ap (of_z w32) k)))
    (⊎_elim (λ (k : kind ≡ negsuc 0). absurd (b (ap (of_z w32) k)))
    (⊎_elim (λ (k : kind ≡ pos 1). absurd (c (ap (of_z w32) k)))
    (⊎_elim (λ (k : kind ≡ pos 2). absurd (d (ap (of_z w32) k)))
    (⊎_elim (λ (k : kind ≡ pos 3). absurd (e (ap (of_z w32) k))) (λ (k : kind ≡ pos 4). k)))))
    ((type_exactly kind).0 allowed)

-- how many lines there are
header_counted : (header : Header) → length (header_lines header) ≡ 10
unfolding header_lines
header_counted header = refl

cpus_counted : (bytes : List ℕ) (count : ℕ) → length (cpu_lines (spaced (cpu_at bytes) 56 4 count)) ≡ 2 + count
unfolding cpu_lines
cpus_counted bytes count = table_counted cpu_row (cpu_at bytes) 56 4 count no_cpu cpu_heads

memories_counted : (bytes : List ℕ) (start count : ℕ) → length (memory_lines (spaced (memory_at bytes) start 24 count)) ≡ 2 + count
unfolding memory_lines
memories_counted bytes start count = table_counted memory_row (memory_at bytes) start 24 count no_memory memory_heads

-- the lines of a page that is accepted
module _ (bytes : List ℕ) (found : Summary) (p : Page bytes found) where
  pub page_short : AreBytes bytes → length bytes < 65536
  page_short each = omega (arith, p.measured, p.whole, number_below bytes 6 2 each (omega (arith, p.whole)))

  pub page_counted : length (page_lines bytes) ≡ 15 + found.cpus + found.memories
  page_counted =
      let fields = header_lines found.header in
      let cpus = cpu_lines (spaced (cpu_at bytes) 56 4 found.cpus) in
      let memories = memory_lines (spaced (memory_at bytes) (56 + 4 * found.cpus) 24 found.memories) in
      ap length p.lines ∙
      omega (
        arith,
        length-append fields (cpus ++ memories),
        length-append cpus memories,
        header_counted found.header,
        cpus_counted bytes found.cpus,
        memories_counted bytes (56 + 4 * found.cpus) found.memories,
      )

  module _ (index : ℕ) {before after : List ℕ} {at end : ℕ} where
    page_line : (line : List ℕ) → line ≡ get_or (parts (title_line (length bytes) (checksum_field bytes)) (header_lines found.header) (cpu_lines (spaced (cpu_at bytes) 56 4 found.cpus))
        (memory_lines (spaced (memory_at bytes) (56 + 4 * found.cpus) 24 found.memories)) index) index [] →
        Wrote before at line after end → Wrote before at (get_or (page_lines bytes) index []) after end
    page_line line e wrote = wrote_same (e ∙ sym (ap (λ (lines : List (List ℕ)). get_or lines index []) p.lines)) wrote

    pub title_line_lem : (checksum : ℕ) → index ≡ 0 → checksum ≡ checksum_field bytes → Wrote before at (title_line (length bytes) checksum) after end →
        Wrote before at (get_or (page_lines bytes) index []) after end
    title_line_lem checksum first e wrote = page_line (title_line (length bytes) checksum) (rw (first, e)) wrote

    pub field_line : (index ≡ 0 → ⊥) → index ≤ 10 → Wrote before at (get_or (header_lines found.header) (index - 1) []) after end →
        Wrote before at (get_or (page_lines bytes) index []) after end
    field_line later inside wrote =
        let counted = header_counted found.header in
        page_line (get_or (header_lines found.header) (index - 1) [])
        (part_field (title_line (length bytes) (checksum_field bytes)) (header_lines found.header) (cpu_lines (spaced (cpu_at bytes) 56 4 found.cpus))
        (memory_lines (spaced (memory_at bytes) (56 + 4 * found.cpus) 24 found.memories)) index (index - 1) (omega arith) (omega arith))
        wrote

    pub cpu_line : 10 < index → index - 1 - 10 < 2 + found.cpus → Wrote before at (get_or (cpu_lines (spaced (cpu_at bytes) 56 4 found.cpus)) (index - 1 - 10) []) after end →
        Wrote before at (get_or (page_lines bytes) index []) after end
    cpu_line later inside wrote =
        let counted = header_counted found.header in
        let rows = cpus_counted bytes found.cpus in
        page_line (get_or (cpu_lines (spaced (cpu_at bytes) 56 4 found.cpus)) (index - 1 - 10) [])
        (part_cpu (title_line (length bytes) (checksum_field bytes)) (header_lines found.header) (cpu_lines (spaced (cpu_at bytes) 56 4 found.cpus))
        (memory_lines (spaced (memory_at bytes) (56 + 4 * found.cpus) 24 found.memories)) index (index - 1 - 10) (omega arith) (omega arith))
        wrote

    pub memory_line : 10 < index → 2 + found.cpus ≤ index - 1 - 10 →
        Wrote before at (get_or (memory_lines (spaced (memory_at bytes) (56 + 4 * found.cpus) 24 found.memories)) (index - 1 - 10 - (2 + found.cpus)) []) after end →
        Wrote before at (get_or (page_lines bytes) index []) after end
    memory_line later inside wrote =
        let counted = header_counted found.header in
        let rows = cpus_counted bytes found.cpus in
        page_line (get_or (memory_lines (spaced (memory_at bytes) (56 + 4 * found.cpus) 24 found.memories)) (index - 1 - 10 - (2 + found.cpus)) [])
        (part_memory (title_line (length bytes) (checksum_field bytes)) (header_lines found.header) (cpu_lines (spaced (cpu_at bytes) 56 4 found.cpus))
        (memory_lines (spaced (memory_at bytes) (56 + 4 * found.cpus) 24 found.memories)) index (index - 1 - 10 - (2 + found.cpus)) (omega arith))
        wrote

-- the one line of a page that is refused
module _ (bytes : List ℕ) (refusal : Refusal) (e : judged bytes ≡ refused refusal) where
  pub refused_counted : length (page_lines bytes) ≡ 1
  unfolding page_lines
  refused_counted = rw e

  pub refused_line : (index : ℕ) {before after : List ℕ} {at end : ℕ} → index < 1 → Wrote before at (refusal_line refusal) after end →
      Wrote before at (get_or (page_lines bytes) index []) after end
  unfolding page_lines
  refused_line index only wrote =
      let first : index ≡ 0 = omega arith in
      rw (e, first) wrote

-- the text of lines, one by one
flatten_append : (first second : List (List ℕ)) → flatten (first ++ second) ≡ flatten first ++ flatten second
unfolding flatten
flatten_append [] second = refl
flatten_append (line ∷ first) second = ap (λ (text : List ℕ). line ++ text) (flatten_append first second) ∙ sym (append_assoc line (flatten first) (flatten second))

module _ (lines : List (List ℕ)) (from : ℕ) where
  pub text_none : text_between lines from from ≡ []
  unfolding flatten
  text_none =
      let none : from - from ≡ 0 = omega arith in
      rw none

  pub text_more : (next : ℕ) → from ≤ next → next < length lines → text_between lines from (next + 1) ≡ text_between lines from next ++ get_or lines next []
  unfolding flatten
  text_more next later inside =
      let one : next + 1 - from ≡ suc (next - from) = omega arith in
      let back : from + (next - from) ≡ next = omega arith in
      ap (λ (k : ℕ). flatten (take k (drop from lines))) one ∙
      ap flatten (take-suc (drop from lines) (next - from) [] (rw (length-drop from lines) (omega arith))) ∙
      flatten_append (take (next - from) (drop from lines)) (get_or (drop from lines) (next - from) [] ∷ []) ∙
      ap (λ (line : List ℕ). text_between lines from next ++ line) (append-nil (get_or (drop from lines) (next - from) []) ∙ get_or-drop from lines (next - from) [] ∙
      ap (λ (k : ℕ). get_or lines k []) back)

-- what the loop has written: the lines from one to before the next
pub record SoFar (lines : List (List ℕ)) (from : ℕ) (before after : List ℕ) (next count : ℕ) : Type 0 where
  pub text : Wrote before 0 (text_between lines from next) after count
  pub starts : from ≤ next
  pub ends : from ≤ length lines → next ≤ length lines
  pub past : length lines ≤ from → next ≡ from

pub far_none : (lines : List (List ℕ)) (from : ℕ) (before : List ℕ) → SoFar lines from before before from 0
far_none lines from before =
    record {
      text = wrote_same (sym (text_none lines from)) (wrote_nothing before 0 (omega arith));
      starts = omega arith;
      ends = λ (l : from ≤ length lines). l;
      past = λ (l : length lines ≤ from). refl;
    }

pub far_more : (lines : List (List ℕ)) (from next count end : ℕ) (before middle after : List ℕ) → next < length lines → SoFar lines from before middle next count →
    Wrote middle count (get_or lines next []) after end → SoFar lines from before after (next + 1) end
far_more lines from next count end before middle after inside far wrote =
    record {
      text = wrote_same (sym (text_more lines from next far.starts inside)) (wrote_then (omega arith) far.text wrote);
      starts = omega (arith, far.starts);
      ends = λ (l : from ≤ length lines). omega arith;
      past = λ (l : length lines ≤ from). absurd (omega (arith, far.past l));
    }

pub far_spelled : (lines : List (List ℕ)) (from next count total : ℕ) (before after : List ℕ) → SoFar lines from before after next count → total ≡ length lines →
    (next < length lines → length before < count + line_bytes) → Spells lines from before after (record { next = next; count = count; lines = total })
far_spelled lines from next count total before after far e stops =
    record {
      leaves = far.text.leaves;
      counts = far.text.ends ∙ zero-add _;
      fits = far.text.fits;
      starts = far.starts;
      ends = far.ends;
      past = far.past;
      stops = stops;
      total = e;
    }
