-- Dumps: both tables as bytes, the line that is printed of a dump, and the whole output. Sections 17.2, 17.3 and 17.7 of the manual.
use Rattle.std.specs.Prelude.{ℕ, ◌+◌, ◌*◌, List, [], ◌∷◌, ◌++◌, leb, ltb, length, if◌then◌else◌, Option, Some, None}
use Rattle.endian.specs.Parts.{written}
use Rattle.endian.specs.Numbers.{bytes_of}
use Rattle.endian.specs.Runs.{bytes_of_each, numbers_at}
use Rattle.reply.specs.declared.Fault.{Fault}
use Rattle.reply.specs.declared.Fault.TheVariants.{Lengths, AtRecord, AtPlace}
use Rattle.interface.specs.Places.{Tables, place_table_words, object_table_words}
use Rattle.interface.specs.Damage.{fault}
use Rattle.interface.specs.Journal.{decimal, newline}
use Rattle.repair_rules.specs.Repair.{repaired}

-- a word is this many bytes, the lowest first
abbrev pub word_bytes : ℕ
word_bytes = 4

-- the place words come first, and where they end the object words begin
abbrev pub place_bytes : ℕ
place_bytes = word_bytes * place_table_words

abbrev pub dump_bytes : ℕ
dump_bytes = place_bytes + word_bytes * object_table_words

-- the tables that a dump holds
abbrev pub tables_in : List ℕ → Tables
tables_in bytes = record { places = numbers_at bytes 0 word_bytes place_table_words; objects = numbers_at bytes place_bytes word_bytes object_table_words }

-- the dump of tables
abbrev pub dump_of : Tables → List ℕ
dump_of tables = bytes_of_each (bytes_of word_bytes) tables.places ++ bytes_of_each (bytes_of word_bytes) tables.objects

-- a dump with its tables repaired
unfoldable pub repaired_dump : List ℕ → List ℕ
repaired_dump bytes = dump_of (repaired (tables_in bytes))

-- the lines "short", "long" and "sound"
abbrev pub short_line : List ℕ
short_line = 115 ∷ 104 ∷ 111 ∷ 114 ∷ 116 ∷ newline ∷ []

abbrev pub long_line : List ℕ
long_line = 108 ∷ 111 ∷ 110 ∷ 103 ∷ newline ∷ []

abbrev pub sound_line : List ℕ
sound_line = 115 ∷ 111 ∷ 117 ∷ 110 ∷ 100 ∷ newline ∷ []

-- " record " and " place "
abbrev pub record_word : List ℕ
record_word = 32 ∷ 114 ∷ 101 ∷ 99 ∷ 111 ∷ 114 ∷ 100 ∷ 32 ∷ []

abbrev pub place_word : List ℕ
place_word = 32 ∷ 112 ∷ 108 ∷ 97 ∷ 99 ∷ 101 ∷ 32 ∷ []

-- the line of a place or record where a rule is broken: the rule's number, the word between, and its own number
unfoldable pub broken_line : ℕ → List ℕ → ℕ → List ℕ
broken_line rule between number = decimal rule ++ between ++ decimal number ++ (newline ∷ [])

-- the line of a fault. That of lengths, rule 1, is no dump's: tables that were read from one have their lengths
abbrev pub fault_line : Option Fault → List ℕ
fault_line None = sound_line
fault_line (Some Lengths) = decimal 1 ++ (newline ∷ [])
fault_line (Some (AtRecord rule number)) = broken_line rule record_word number
fault_line (Some (AtPlace rule place)) = broken_line rule place_word place

-- all that is printed of a dump: the line alone where its length is wrong, and otherwise the line of its first fault, and then the repaired dump
unfoldable pub output : List ℕ → List ℕ
output bytes =
    if ltb (length bytes) dump_bytes then short_line else
    if ltb dump_bytes (length bytes) then long_line else
    fault_line (fault (tables_in bytes)) ++ repaired_dump bytes

-- a report into a buffer: how many bytes the whole output has, which stands at the start of a buffer that has room for it, and the bytes past it stay; a shorter buffer stays as it is
pub record Reporting : Type 0 where
  pub count : ℕ
  pub buffer : List ℕ

unfoldable pub reporting : List ℕ → List ℕ → Reporting
reporting bytes before =
    record {
      count = length (output bytes);
      buffer = if leb (length (output bytes)) (length before) then written before 0 (output bytes) else before;
    }
