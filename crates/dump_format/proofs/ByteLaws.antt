-- Bytes and words of runs, and the tables of a dump.
use Prim.Native.Nat.{ℕ, zero, suc, ◌+◌, ◌*◌, ◌^◌, ◌≤◌, ◌<◌}
use mathlib.Core.Path.{◌≡◌, sym, ap, ◌∙◌}
use mathlib.Core.Bool.{true, false}
use mathlib.Core.List.{List, [], ◌∷◌, ◌++◌, append-nil}
use native.Mathlib.Omega.{arith}
use lib.Dec.{ltb}
use lib.ListN.{length, get_or, length-append, get_or-append, get_or-eq_default}
use lib.Seq.{take-add, take_all, get_or-append-add}
use borrow.Author.Tests.{ltb-true, ltb-false}
use Rattle.endian.specs.Parts.{AreBytes, part}
use Rattle.endian.specs.Numbers.{little, bytes_of, number_at}
use Rattle.endian.specs.Runs.{bytes_of_each, spaced, numbers_at}
use Rattle.endian.proofs.PartLaws.{append_bytes}
use Rattle.endian.proofs.NumberLaws.{length_bytes, bytes_bytes, number_of_four, number_below}
use Rattle.endian.proofs.RunLaws.{length_spaced, length_each, numbers_back, write_numbers}
use Rattle.interface.specs.Basics.{word}
use Rattle.interface.specs.Places.{Tables, place_table_words, object_table_words}
use Rattle.interface.proofs.Basics.BoolLaws.{cases}
use Rattle.interface.proofs.Tables.TableLaws.{places_long, objects_long}
use Rattle.repair_rules.specs.RepairFacts.{Long}
use Rattle.dump_format.specs.Dumps.{word_bytes, place_bytes, dump_bytes, tables_in, dump_of}
use Rattle.dump_format.specs.DumpFacts.{word_at, WordsStand, IsDump}

-- a member of a run
pub word_spaced : (what : ℕ → ℕ) (at distance count i : ℕ) → i < count → word (spaced what at distance count) i ≡ what (at + distance * i)
unfolding spaced
word_spaced what at distance zero i l = absurd (omega arith)
word_spaced what at distance (suc count) zero l = ap what (omega arith)
word_spaced what at distance (suc count) (suc i) l =
    let next : at + distance + distance * i ≡ at + distance * suc i = omega arith in
    word_spaced what (at + distance) distance count i (omega arith) ∙ ap what next

-- a byte of the bytes of numbers in turn
pub byte_of_each : (width : ℕ) (numbers : List ℕ) (i j : ℕ) → i < length numbers → j < width →
    get_or (bytes_of_each (bytes_of width) numbers) (width * i + j) 0 ≡ get_or (bytes_of width (word numbers i)) j 0
unfolding bytes_of_each
byte_of_each width [] i j l k = absurd (omega arith)
byte_of_each width (number ∷ numbers) zero j l k =
    let first : width * 0 + j ≡ j = omega arith in
    rw first (get_or-append (bytes_of width number) (bytes_of_each (bytes_of width) numbers) 0 j (rw (length_bytes width number) k))
byte_of_each width (number ∷ numbers) (suc i) j l k =
    let later : width * suc i + j ≡ length (bytes_of width number) + (width * i + j) = omega (arith, length_bytes width number) in
    rw later (get_or-append-add (bytes_of width number) (bytes_of_each (bytes_of width) numbers) (width * i + j) 0 ∙ byte_of_each width numbers i j (omega arith) k)

-- the bytes of numbers are bytes
pub each_bytes : (width : ℕ) (numbers : List ℕ) → AreBytes (bytes_of_each (bytes_of width) numbers)
unfolding bytes_of_each
each_bytes width [] = λ i. omega arith
each_bytes width (number ∷ numbers) = append_bytes (bytes_of width number) (bytes_of_each (bytes_of width) numbers) (bytes_bytes width number) (each_bytes width numbers)

-- four bytes as a word
four_word : (bytes : List ℕ) (at : ℕ) → number_at bytes at 4 ≡ word_at bytes at
unfolding little
four_word bytes at =
    let number : word_at bytes at ≡ little (get_or bytes at 0 ∷ get_or bytes (at + 1) 0 ∷ get_or bytes (at + 2) 0 ∷ get_or bytes (at + 3) 0 ∷ []) = omega arith in
    sym (number_of_four bytes at (word_at bytes at) number)

-- the tables of a dump have their lengths
pub tables_long : (bytes : List ℕ) → Long (tables_in bytes)
tables_long bytes =
    record {
      places_long = length_spaced (λ place. number_at bytes place word_bytes) 0 word_bytes place_table_words;
      objects_long = length_spaced (λ place. number_at bytes place word_bytes) place_bytes word_bytes object_table_words;
    }

pub words_stand : WordsStand
words_stand =
    record {
      lengths_right = tables_long;
      place_words_lem =
          λ bytes i l.
          let start : 0 + word_bytes * i ≡ 4 * i = omega arith in
          word_spaced (λ place. number_at bytes place word_bytes) 0 word_bytes place_table_words i l ∙ ap (λ (at : ℕ). number_at bytes at word_bytes) start ∙ four_word bytes (4 * i);
      object_words = λ bytes i l. word_spaced (λ place. number_at bytes place word_bytes) place_bytes word_bytes object_table_words i l ∙ four_word bytes (49152 + 4 * i);
    }

-- the parts of a dump
module _ (t : Tables) (long : Long t) where
  pub place_part : length (bytes_of_each (bytes_of word_bytes) t.places) ≡ place_bytes
  place_part = length_each (bytes_of word_bytes) word_bytes (length_bytes word_bytes) t.places ∙ ap (λ (n : ℕ). word_bytes * n) long.places_long

  object_part : length (bytes_of_each (bytes_of word_bytes) t.objects) ≡ word_bytes * object_table_words
  object_part = length_each (bytes_of word_bytes) word_bytes (length_bytes word_bytes) t.objects ∙ ap (λ (n : ℕ). word_bytes * n) long.objects_long

  pub length_dump : length (dump_of t) ≡ dump_bytes
  length_dump = length-append (bytes_of_each (bytes_of word_bytes) t.places) (bytes_of_each (bytes_of word_bytes) t.objects) ∙ (rw (place_part, object_part))

  pub dump_bytes_lem : AreBytes (dump_of t)
  dump_bytes_lem =
      append_bytes (bytes_of_each (bytes_of word_bytes) t.places) (bytes_of_each (bytes_of word_bytes) t.objects) (each_bytes word_bytes t.places) (each_bytes word_bytes t.objects)

  -- tables are read back from their dump
  pub tables_back : ((i : ℕ) → word t.places i < 2 ^ 32) → ((i : ℕ) → word t.objects i < 2 ^ 32) → tables_in (dump_of t) ≡ t
  tables_back places_small objects_small =
      let first = bytes_of_each (bytes_of word_bytes) t.places in
      let second = bytes_of_each (bytes_of word_bytes) t.objects in
      let p : numbers_at (dump_of t) 0 word_bytes place_table_words ≡ t.places =
      ap (numbers_at (dump_of t) 0 word_bytes) (sym long.places_long) ∙ numbers_back word_bytes t.places [] second places_small in
      let o : numbers_at (dump_of t) place_bytes word_bytes object_table_words ≡ t.objects =
      ap (numbers_at (dump_of t) place_bytes word_bytes) (sym long.objects_long) ∙
      ap (λ (at : ℕ). numbers_at (dump_of t) at word_bytes (length t.objects)) (sym place_part) ∙
      ap (λ (l : List ℕ). numbers_at (first ++ l) (length first) word_bytes (length t.objects)) (sym (append-nil second)) ∙
      numbers_back word_bytes t.objects first [] objects_small in
      λ i. record { places = p i; objects = o i }

  -- a byte of a place, and one of the records
  pub place_byte : (i j : ℕ) → i < place_table_words → j < word_bytes → get_or (dump_of t) (word_bytes * i + j) 0 ≡ get_or (bytes_of word_bytes (word t.places i)) j 0
  place_byte i j l k =
      get_or-append (bytes_of_each (bytes_of word_bytes) t.places) (bytes_of_each (bytes_of word_bytes) t.objects) 0 (word_bytes * i + j) (rw place_part (omega arith)) ∙
      byte_of_each word_bytes t.places i j (rw long.places_long l) k

  pub record_byte : (i : ℕ) → get_or (dump_of t) (place_bytes + i) 0 ≡ get_or (bytes_of_each (bytes_of word_bytes) t.objects) i 0
  record_byte i =
      ap (λ (n : ℕ). get_or (dump_of t) (n + i) 0) (sym place_part) ∙
      get_or-append-add (bytes_of_each (bytes_of word_bytes) t.places) (bytes_of_each (bytes_of word_bytes) t.objects) i 0

-- a dump's own bytes and words
module _ (bytes : List ℕ) (is : IsDump bytes) where
  pub bytes_back : dump_of (tables_in bytes) ≡ bytes
  bytes_back =
      let first : bytes_of_each (bytes_of word_bytes) (tables_in bytes).places ≡ part bytes 0 place_bytes =
      write_numbers word_bytes 0 place_table_words bytes is.are_bytes (rw is.long (omega arith)) in
      let second : bytes_of_each (bytes_of word_bytes) (tables_in bytes).objects ≡ part bytes place_bytes (word_bytes * object_table_words) =
      write_numbers word_bytes place_bytes object_table_words bytes is.are_bytes (rw is.long (omega arith)) in
      rw (first, second) (sym (take-add place_bytes (word_bytes * object_table_words) bytes) ∙ take_all dump_bytes bytes (rw is.long (omega arith)))

  small : (at count : ℕ) → at + word_bytes * count ≤ dump_bytes → (i : ℕ) → word (numbers_at bytes at word_bytes count) i < 2 ^ 32
  small at count fits i =
      cases (ltb i count)
      (λ (t : ltb i count ≡ true).
      let l = ltb-true i count t in
      rw (word_spaced (λ place. number_at bytes place word_bytes) at word_bytes count i l)
      (number_below bytes (at + word_bytes * i) word_bytes is.are_bytes (rw is.long (omega arith))))
      (λ (f : ltb i count ≡ false).
      let past : length (numbers_at bytes at word_bytes count) ≤ i =
      rw (length_spaced (λ place. number_at bytes place word_bytes) at word_bytes count) (ltb-false i count f) in
      rw (get_or-eq_default (numbers_at bytes at word_bytes count) 0 past) (omega arith))

  pub places_small : (i : ℕ) → word (tables_in bytes).places i < 2 ^ 32
  places_small = small 0 place_table_words (omega arith)

  pub objects_small : (i : ℕ) → word (tables_in bytes).objects i < 2 ^ 32
  objects_small = small place_bytes object_table_words (omega arith)
