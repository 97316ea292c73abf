-- What follows from the definition of a dump and of its output: sections 17.2, 17.3 and 17.7 of the manual.
use Rattle.std.specs.Prelude.{ℕ, ◌+◌, ◌*◌, ◌^◌, ◌≤◌, ◌<◌, ◌≡◌, ◌⊎◌, true, List, [], ◌∷◌, ◌++◌, length, drop, get_or}
use Rattle.endian.specs.Parts.{AreBytes}
use Rattle.interface.specs.Basics.{word}
use Rattle.interface.specs.Places.{Tables, shown}
use Rattle.interface.specs.Damage.{sound, fault}
use Rattle.interface.specs.DamageReport.{FirstAtRecord, FirstAtPlace}
use Rattle.interface.specs.Journal.{decimal}
use Rattle.repair_rules.specs.Repair.{repaired}
use Rattle.repair_rules.specs.RepairFacts.{WholeChain, Long, RecordsKeep, HypervisorKeeps}
use Rattle.dump_format.specs.Dumps.{tables_in, dump_of, repaired_dump, fault_line, output, reporting}

-- the number that four bytes from a place on are, the lowest first
abbrev pub word_at : List ℕ → ℕ → ℕ
word_at bytes at = get_or bytes at 0 + 256 * get_or bytes (at + 1) 0 + 65536 * get_or bytes (at + 2) 0 + 16777216 * get_or bytes (at + 3) 0

-- A dump holds the 12,288 place words, then the 320 object words, each of four bytes, the lowest first
pub record WordsStand : Type 0 where
  pub lengths_right : (bytes : List ℕ) → Long (tables_in bytes)
  pub place_words_lem : (bytes : List ℕ) (i : ℕ) → i < 12288 → word (tables_in bytes).places i ≡ word_at bytes (4 * i)
  pub object_words : (bytes : List ℕ) (i : ℕ) → i < 320 → word (tables_in bytes).objects i ≡ word_at bytes (49152 + 4 * i)

-- bytes, as many as a dump has
pub record IsDump (bytes : List ℕ) : Type 0 where
  pub long : length bytes ≡ 50432
  pub are_bytes : AreBytes bytes

-- The line tells: "short" or "long" alone where the length is wrong; otherwise the line of the first fault, and then the repaired dump. That is the first rule that is broken with the
-- lowest record or else the lowest place that breaks it, or "sound"
pub record LineTells : Type 0 where
  pub too_short : (bytes : List ℕ) → length bytes < 50432 → output bytes ≡ 115 ∷ 104 ∷ 111 ∷ 114 ∷ 116 ∷ 10 ∷ []
  pub too_long : (bytes : List ℕ) → 50432 < length bytes → output bytes ≡ 108 ∷ 111 ∷ 110 ∷ 103 ∷ 10 ∷ []
  pub by_fault : (bytes : List ℕ) → length bytes ≡ 50432 → output bytes ≡ fault_line (fault (tables_in bytes)) ++ repaired_dump bytes
  pub at_record : (bytes : List ℕ) (rule number : ℕ) → length bytes ≡ 50432 → FirstAtRecord (shown (tables_in bytes)) rule number →
      output bytes ≡ (decimal rule ++ (32 ∷ 114 ∷ 101 ∷ 99 ∷ 111 ∷ 114 ∷ 100 ∷ 32 ∷ []) ++ decimal number ++ (10 ∷ [])) ++ repaired_dump bytes
  pub at_place : (bytes : List ℕ) (rule place : ℕ) → length bytes ≡ 50432 → FirstAtPlace (shown (tables_in bytes)) rule place →
      output bytes ≡ (decimal rule ++ (32 ∷ 112 ∷ 108 ∷ 97 ∷ 99 ∷ 101 ∷ 32 ∷ []) ++ decimal place ++ (10 ∷ [])) ++ repaired_dump bytes
  pub is_sound : (bytes : List ℕ) → length bytes ≡ 50432 → sound (tables_in bytes) ≡ true →
      output bytes ≡ (115 ∷ 111 ∷ 117 ∷ 110 ∷ 100 ∷ 10 ∷ []) ++ repaired_dump bytes

-- Tables and their dump make each other, and the repaired dump holds the repaired tables
pub record DumpsBothWays : Type 0 where
  pub tables_back : (t : Tables) → Long t → ((i : ℕ) → word t.places i < 2 ^ 32) → ((i : ℕ) → word t.objects i < 2 ^ 32) → tables_in (dump_of t) ≡ t
  pub bytes_back : (bytes : List ℕ) → IsDump bytes → dump_of (tables_in bytes) ≡ bytes
  pub repaired_back : (bytes : List ℕ) → IsDump bytes → tables_in (repaired_dump bytes) ≡ repaired (tables_in bytes)

-- Repair of a dump, byte by byte: the 16 bytes of a live place are as before if it lies in domain 0 (below place 384) or has a whole chain, those of a null place and of one whose chain
-- is not whole are 0, and no byte of the records changes
pub record BytesExactly : Type 0 where
  pub staying : (bytes : List ℕ) → IsDump bytes → (p k : ℕ) → p < 3072 → k < 16 → (((shown (tables_in bytes)).caps p).permissions ≡ 0 → ⊥) →
      (p < 384) ⊎ WholeChain (shown (tables_in bytes)) p → get_or (repaired_dump bytes) (16 * p + k) 0 ≡ get_or bytes (16 * p + k) 0
  pub null_emptied : (bytes : List ℕ) → IsDump bytes → (p k : ℕ) → p < 3072 → k < 16 → ((shown (tables_in bytes)).caps p).permissions ≡ 0 →
      get_or (repaired_dump bytes) (16 * p + k) 0 ≡ 0
  pub broken_emptied : (bytes : List ℕ) → IsDump bytes → (p k : ℕ) → p < 3072 → k < 16 → 384 ≤ p → (WholeChain (shown (tables_in bytes)) p → ⊥) →
      get_or (repaired_dump bytes) (16 * p + k) 0 ≡ 0
  pub records_stay : (bytes : List ℕ) → IsDump bytes → (i : ℕ) → 49152 ≤ i → get_or (repaired_dump bytes) i 0 ≡ get_or bytes i 0
  pub as_long : (bytes : List ℕ) → length (repaired_dump bytes) ≡ 50432

-- A sound dump comes back unchanged; and a repaired dump is found sound, and comes back unchanged, if its records and domain 0 were
pub record SoundComesBack : Type 0 where
  pub unchanged : (bytes : List ℕ) → IsDump bytes → sound (tables_in bytes) ≡ true → output bytes ≡ (115 ∷ 111 ∷ 117 ∷ 110 ∷ 100 ∷ 10 ∷ []) ++ bytes
  pub mended : (bytes : List ℕ) → IsDump bytes → RecordsKeep (shown (tables_in bytes)) → HypervisorKeeps (shown (tables_in bytes)) →
      output (repaired_dump bytes) ≡ (115 ∷ 111 ∷ 117 ∷ 110 ∷ 100 ∷ 10 ∷ []) ++ repaired_dump bytes

-- A report counts the bytes of the whole output. It puts them first in a buffer that has room and leaves the bytes past them; a shorter buffer stays
pub record ReportsWhole : Type 0 where
  pub counts : (bytes before : List ℕ) → (reporting bytes before).count ≡ length (output bytes)
  pub stands : (bytes before : List ℕ) → length (output bytes) ≤ length before →
      (reporting bytes before).buffer ≡ output bytes ++ drop (length (output bytes)) before
  pub stays_short : (bytes before : List ℕ) → length before < length (output bytes) → (reporting bytes before).buffer ≡ before
