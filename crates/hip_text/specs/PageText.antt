-- The text of an information page, line by line: section 16.9 of the manual.
use Rattle.std.specs.Prelude.{ℕ, zero, suc, ◌+◌, ◌-◌, ◌≤◌, ◌<◌, ◌≡◌, eqb, ℤ, pos, negsuc, length, take, drop, replicate, if◌then◌else◌, Result, Ok, Err}
use mathlib.Core.List.{List, [], ◌∷◌, ◌++◌, flatten}
use Rattle.endian.specs.Parts.{written}
use Rattle.interface.specs.Journal.{decimal, blank, newline}
use Rattle.hip_format.specs.Reader.{checksum_field, Judgement, refused, accepted, judged}
use Rattle.hip_format.specs.declared.Header.{Header}
use Rattle.hip_format.specs.declared.Cpu.{Cpu}
use Rattle.hip_format.specs.declared.Memory.{Memory}
use Rattle.hip_format.specs.declared.Refusal.{Refusal}
use Rattle.hip_format.specs.declared.Refusal.TheVariants.{Short, Signature, Length, Layout, Checksum, «Type»}
use Rattle.hip_format.specs.declared.Summary.{Summary}
use Rattle.texts.specs.Texts.{padded, hexadecimal}
use Rattle.hip_text.specs.declared.Spelled.{Spelled}

-- a number in decimal at the right end of so many bytes
unfoldable pub column : ℕ → ℕ → List ℕ
column width number = padded width (decimal number)

-- the end of a line, and the two blanks between columns
abbrev pub line_end : List ℕ
line_end = newline ∷ []

abbrev pub gap : List ℕ
gap = blank ∷ blank ∷ []

-- a number as "0x" and so many hexadecimal digits, and that after two blanks
unfoldable pub hex : ℕ → ℕ → List ℕ
hex count number = hexadecimal count number

unfoldable pub hex_column : ℕ → ℕ → List ℕ
hex_column count number = gap ++ hex count number

-- a refusal's name: "short", "signature", "length", "layout", "checksum", "type"
abbrev pub refusal_name : Refusal → List ℕ
refusal_name Short = 115 ∷ 104 ∷ 111 ∷ 114 ∷ 116 ∷ []
refusal_name Signature = 115 ∷ 105 ∷ 103 ∷ 110 ∷ 97 ∷ 116 ∷ 117 ∷ 114 ∷ 101 ∷ []
refusal_name Length = 108 ∷ 101 ∷ 110 ∷ 103 ∷ 116 ∷ 104 ∷ []
refusal_name Layout = 108 ∷ 97 ∷ 121 ∷ 111 ∷ 117 ∷ 116 ∷ []
refusal_name Checksum = 99 ∷ 104 ∷ 101 ∷ 99 ∷ 107 ∷ 115 ∷ 117 ∷ 109 ∷ []
refusal_name «Type» = 116 ∷ 121 ∷ 112 ∷ 101 ∷ []

-- the line of a page that is refused: "refused: " and the refusal's name
abbrev pub refusal_line : Refusal → List ℕ
refusal_line refusal = (114 ∷ 101 ∷ 102 ∷ 117 ∷ 115 ∷ 101 ∷ 100 ∷ 58 ∷ 32 ∷ []) ++ refusal_name refusal ++ line_end

-- the first line: "information page of ", the length, " bytes, checksum " and the checksum
unfoldable pub title_line : ℕ → ℕ → List ℕ
title_line bytes checksum =
    (105 ∷ 110 ∷ 102 ∷ 111 ∷ 114 ∷ 109 ∷ 97 ∷ 116 ∷ 105 ∷ 111 ∷ 110 ∷ 32 ∷ 112 ∷ 97 ∷ 103 ∷ 101 ∷ 32 ∷ 111 ∷ 102 ∷ 32 ∷ []) ++ decimal bytes ++
    (32 ∷ 98 ∷ 121 ∷ 116 ∷ 101 ∷ 115 ∷ 44 ∷ 32 ∷ 99 ∷ 104 ∷ 101 ∷ 99 ∷ 107 ∷ 115 ∷ 117 ∷ 109 ∷ 32 ∷ []) ++ decimal checksum ++ line_end

-- a field's line: its name, and its value as bits, as a number, or as a frequency with " kHz"
unfoldable pub bits_line : List ℕ → ℕ → List ℕ
bits_line name value = name ++ hex 8 value ++ line_end

unfoldable pub number_line : List ℕ → ℕ → List ℕ
number_line name value = name ++ decimal value ++ line_end

unfoldable pub frequency_line : List ℕ → ℕ → List ℕ
frequency_line name value = name ++ decimal value ++ (32 ∷ 107 ∷ 72 ∷ 122 ∷ []) ++ line_end

-- a field's name with blanks after it, up to 15 bytes
abbrev pub named : List ℕ → List ℕ
named name = name ++ replicate (15 - length name) blank

-- the lines of the ten fields: "features", "API version", "SEL", "EXC", "VMI", "GSI", "page sizes", "UTCB sizes", "TSC frequency", "bus frequency"
unfoldable pub header_lines : Header → List (List ℕ)
header_lines header =
    bits_line (named (102 ∷ 101 ∷ 97 ∷ 116 ∷ 117 ∷ 114 ∷ 101 ∷ 115 ∷ [])) header.features ∷
    number_line (named (65 ∷ 80 ∷ 73 ∷ 32 ∷ 118 ∷ 101 ∷ 114 ∷ 115 ∷ 105 ∷ 111 ∷ 110 ∷ [])) header.version ∷
    number_line (named (83 ∷ 69 ∷ 76 ∷ [])) header.sel ∷
    number_line (named (69 ∷ 88 ∷ 67 ∷ [])) header.exc ∷
    number_line (named (86 ∷ 77 ∷ 73 ∷ [])) header.vmi ∷
    number_line (named (71 ∷ 83 ∷ 73 ∷ [])) header.gsi ∷
    bits_line (named (112 ∷ 97 ∷ 103 ∷ 101 ∷ 32 ∷ 115 ∷ 105 ∷ 122 ∷ 101 ∷ 115 ∷ [])) header.pages ∷
    bits_line (named (85 ∷ 84 ∷ 67 ∷ 66 ∷ 32 ∷ 115 ∷ 105 ∷ 122 ∷ 101 ∷ 115 ∷ [])) header.utcbs ∷
    frequency_line (named (84 ∷ 83 ∷ 67 ∷ 32 ∷ 102 ∷ 114 ∷ 101 ∷ 113 ∷ 117 ∷ 101 ∷ 110 ∷ 99 ∷ 121 ∷ [])) header.tsc ∷
    frequency_line (named (98 ∷ 117 ∷ 115 ∷ 32 ∷ 102 ∷ 114 ∷ 101 ∷ 113 ∷ 117 ∷ 101 ∷ 110 ∷ 99 ∷ 121 ∷ [])) header.bus ∷
    []

-- a table: an empty line, a line that says that there is no row or the heads of the columns, and the rows
unfoldable pub table : List ℕ → List ℕ → List (List ℕ) → List (List ℕ)
table none heads rows = line_end ∷ (if eqb (length rows) 0 then none else heads) ∷ rows

-- a row for each member of a list, with its index, which counts from a number on
unfoldable pub rows_from : {A : Type 0} → (ℕ → A → List ℕ) → ℕ → List A → List (List ℕ)
rows_from row index [] = []
rows_from row index (one ∷ others) = row index one ∷ rows_from row (index + 1) others

-- "no CPU", and "  CPU  package  core  thread  flags"
abbrev pub no_cpu : List ℕ
no_cpu = 110 ∷ 111 ∷ 32 ∷ 67 ∷ 80 ∷ 85 ∷ newline ∷ []

abbrev pub cpu_heads : List ℕ
cpu_heads =
    32 ∷ 32 ∷ 67 ∷ 80 ∷ 85 ∷ 32 ∷ 32 ∷ 112 ∷ 97 ∷ 99 ∷ 107 ∷ 97 ∷ 103 ∷ 101 ∷ 32 ∷ 32 ∷ 99 ∷ 111 ∷ 114 ∷ 101 ∷
    32 ∷ 32 ∷ 116 ∷ 104 ∷ 114 ∷ 101 ∷ 97 ∷ 100 ∷ 32 ∷ 32 ∷ 102 ∷ 108 ∷ 97 ∷ 103 ∷ 115 ∷ newline ∷ []

-- the row of a CPU, whose columns end below their heads
unfoldable pub cpu_row : ℕ → Cpu → List ℕ
cpu_row index cpu = column 5 index ++ column 9 cpu.«package» ++ column 6 cpu.core ++ column 8 cpu.thread ++ column 7 cpu.flags ++ line_end

unfoldable pub cpu_lines : List Cpu → List (List ℕ)
cpu_lines cpus = table no_cpu cpu_heads (rows_from cpu_row 0 cpus)

-- a type in decimal, with "-" before it where it is negative
abbrev pub signed : ℤ → List ℕ
signed (pos number) = decimal number
signed (negsuc number) = 45 ∷ decimal (suc number)

-- the names of the types -2, -1 and 1 to 4: "multiboot module", "microhypervisor", "available memory", "reserved memory", "ACPI reclaim memory", "ACPI NVS memory"; no other stands in a page that is accepted
abbrev pub type_name : ℤ → List ℕ
type_name (negsuc zero) = 109 ∷ 105 ∷ 99 ∷ 114 ∷ 111 ∷ 104 ∷ 121 ∷ 112 ∷ 101 ∷ 114 ∷ 118 ∷ 105 ∷ 115 ∷ 111 ∷ 114 ∷ []
type_name (negsuc (suc zero)) = 109 ∷ 117 ∷ 108 ∷ 116 ∷ 105 ∷ 98 ∷ 111 ∷ 111 ∷ 116 ∷ 32 ∷ 109 ∷ 111 ∷ 100 ∷ 117 ∷ 108 ∷ 101 ∷ []
type_name (negsuc (suc (suc number))) = []
type_name (pos zero) = []
type_name (pos (suc zero)) = 97 ∷ 118 ∷ 97 ∷ 105 ∷ 108 ∷ 97 ∷ 98 ∷ 108 ∷ 101 ∷ 32 ∷ 109 ∷ 101 ∷ 109 ∷ 111 ∷ 114 ∷ 121 ∷ []
type_name (pos (suc (suc zero))) = 114 ∷ 101 ∷ 115 ∷ 101 ∷ 114 ∷ 118 ∷ 101 ∷ 100 ∷ 32 ∷ 109 ∷ 101 ∷ 109 ∷ 111 ∷ 114 ∷ 121 ∷ []
type_name (pos (suc (suc (suc zero)))) = 65 ∷ 67 ∷ 80 ∷ 73 ∷ 32 ∷ 114 ∷ 101 ∷ 99 ∷ 108 ∷ 97 ∷ 105 ∷ 109 ∷ 32 ∷ 109 ∷ 101 ∷ 109 ∷ 111 ∷ 114 ∷ 121 ∷ []
type_name (pos (suc (suc (suc (suc zero))))) = 65 ∷ 67 ∷ 80 ∷ 73 ∷ 32 ∷ 78 ∷ 86 ∷ 83 ∷ 32 ∷ 109 ∷ 101 ∷ 109 ∷ 111 ∷ 114 ∷ 121 ∷ []
type_name (pos (suc (suc (suc (suc (suc number)))))) = []

-- how a range's row ends: its type at the right end of four bytes, and the type's name
abbrev pub type_end : ℤ → List ℕ
type_end kind = gap ++ padded 4 (signed kind) ++ gap ++ type_name kind ++ line_end

-- "no memory", and "range             address                  size   auxiliary  type"
abbrev pub no_memory : List ℕ
no_memory = 110 ∷ 111 ∷ 32 ∷ 109 ∷ 101 ∷ 109 ∷ 111 ∷ 114 ∷ 121 ∷ newline ∷ []

abbrev pub memory_heads : List ℕ
memory_heads =
    114 ∷ 97 ∷ 110 ∷ 103 ∷ 101 ∷ 32 ∷ 32 ∷ 32 ∷ 32 ∷ 32 ∷ 32 ∷ 32 ∷ 32 ∷ 32 ∷ 32 ∷ 32 ∷ 32 ∷ 32 ∷ 97 ∷ 100 ∷ 100 ∷ 114 ∷ 101 ∷ 115 ∷ 115 ∷
    32 ∷ 32 ∷ 32 ∷ 32 ∷ 32 ∷ 32 ∷ 32 ∷ 32 ∷ 32 ∷ 32 ∷ 32 ∷ 32 ∷ 32 ∷ 32 ∷ 32 ∷ 32 ∷ 32 ∷ 32 ∷ 115 ∷ 105 ∷ 122 ∷ 101 ∷
    32 ∷ 32 ∷ 32 ∷ 97 ∷ 117 ∷ 120 ∷ 105 ∷ 108 ∷ 105 ∷ 97 ∷ 114 ∷ 121 ∷ 32 ∷ 32 ∷ 116 ∷ 121 ∷ 112 ∷ 101 ∷ newline ∷ []

-- the row of a range of memory
unfoldable pub memory_row : ℕ → Memory → List ℕ
memory_row index memory = column 5 index ++ hex_column 16 memory.address ++ column 22 memory.size ++ hex_column 8 memory.auxiliary ++ type_end memory.kind

unfoldable pub memory_lines : List Memory → List (List ℕ)
memory_lines memories = table no_memory memory_heads (rows_from memory_row 0 memories)

-- the lines of what bytes are judged to be
abbrev pub lines_of : List ℕ → Judgement → List (List ℕ)
lines_of bytes (refused refusal) = refusal_line refusal ∷ []
lines_of bytes (accepted contents) =
    title_line (length bytes) (checksum_field bytes) ∷
    (header_lines contents.header ++ (cpu_lines contents.cpus ++ memory_lines contents.memories))

-- the lines of a page
unfoldable pub page_lines : List ℕ → List (List ℕ)
page_lines bytes = lines_of bytes (judged bytes)

-- how many lines there are of what is read: one of a refused page, and otherwise the title, ten fields, two above each table, and the rows
abbrev pub count_of : Result Summary Refusal → ℕ
count_of (Err refusal) = 1
count_of (Ok summary) = 15 + summary.cpus + summary.memories

-- no line has more bytes than this: those of a range, with columns of 5, 18, 20, 10 and 4 bytes, five gaps, a name of 19 and the line end
abbrev pub line_bytes : ℕ
line_bytes = 87

-- the text of the lines from one to before another
abbrev pub text_between : List (List ℕ) → ℕ → ℕ → List ℕ
text_between lines from next = flatten (take (next - from) (drop from lines))

-- what spelling lines into a buffer comes to: as many whole lines as fit from one on, at the start of the buffer, whose other bytes stay; where lines are left, the longest
-- might not have fit
pub record Spells (lines : List (List ℕ)) (from : ℕ) (before after : List ℕ) (spelled : Spelled) : Type 0 where
  pub leaves : after ≡ written before 0 (text_between lines from spelled.next)
  pub counts : spelled.count ≡ length (text_between lines from spelled.next)
  pub fits : spelled.count ≤ length after
  pub starts : from ≤ spelled.next
  pub ends : from ≤ length lines → spelled.next ≤ length lines
  pub past : length lines ≤ from → spelled.next ≡ from
  pub stops : spelled.next < length lines → length before < spelled.count + line_bytes
  pub total : spelled.lines ≡ length lines
