-- Laws of the object table: the table of some records shows them, and a store in a table changes one record.
use Prim.Native.Nat.{ℕ, zero, suc, ◌+◌, ◌-◌, ◌*◌, ◌/◌, ◌%◌, ◌≤◌, ◌<◌}
use mathlib.Core.Path.{◌≡◌, refl, sym, ap, ◌∙◌, fun_ext}
use mathlib.Core.Bool.{true, false}
use mathlib.Core.Logic.{◌≢◌}
use mathlib.Core.List.{List, [], ◌∷◌, ◌++◌}
use native.Mathlib.Omega.{arith}
use lib.Dec.{eqb, ltb}
use lib.ListN.{length, set, take, drop, replicate, length-set, length-drop, length-append, get_or-append, get_or-eq_default}
use Rattle.std.proofs.lemmas.List.{get_or-take, get_or-drop, get_or-append_right, length-take-le}
use lib.Seq.{ext_get_or, get_or-set_same, get_or-set_other}
use borrow.Author.Tests.{eqb-true, eqb-false, ltb-true, ltb-false, lt-ltb}
use Rattle.words.specs.Sizes.{records, record_words}
use Rattle.interface.specs.Basics.{word, put}
use Rattle.interface.specs.Places.{State, nothing, object_table_words, object_at, record_table}
use Rattle.interface.proofs.Basics.BoolLaws.{cases}
use Rattle.interface.proofs.Basics.PutLaws.{put_same, put_other}
use Rattle.interface.proofs.Tables.TableLaws.{length_listed, word_listed, words_past, records_past, record_table_back, shown_tables}
use Rattle.objects.specs.Records.{Sized, stored_word}

-- records end where the object table does
pub record RecordsEnd (objects : ℕ → ℕ → ℕ) : Type 0 where
  pub records_end : (r i : ℕ) → records ≤ r → objects r i ≡ 0
  pub words_end : (r i : ℕ) → record_words ≤ i → objects r i ≡ 0

module _ (objects : ℕ → ℕ → ℕ) where
  -- the words of the table, by their numbers
  abbrev word_at : ℕ → ℕ
  word_at i = objects (i / record_words) (i % record_words)

  pub length_record_table : length (record_table objects) ≡ object_table_words
  length_record_table = length_listed word_at object_table_words

  word_record_table : (i : ℕ) → i < object_table_words → word (record_table objects) i ≡ objects (i / record_words) (i % record_words)
  word_record_table = word_listed word_at object_table_words

  -- the table of some records shows them
  pub object_at_table : RecordsEnd objects → object_at (record_table objects) ≡ objects
  object_at_table ends =
      ap (λ (s : State). s.objects)
      (shown_tables (record { caps = λ p. nothing; objects = objects })
      (record { places_end = λ p l. refl; records_end = ends.records_end; words_end = ends.words_end }))

  -- a list of the table's length that has its words is the table
  table_is : (table : List ℕ) → Sized table → ((i : ℕ) → i < object_table_words → word table i ≡ objects (i / record_words) (i % record_words)) →
      table ≡ record_table objects
  table_is table size same =
      ext_get_or 0 table (record_table objects) (size ∙ sym length_record_table)
      (λ i l. let below : i < object_table_words = omega arith in same i below ∙ sym (word_record_table i below))

-- the same records, below the table's ends, have the same table
pub record_table_same : (objects others : ℕ → ℕ → ℕ) → ((r i : ℕ) → r < records → i < record_words → objects r i ≡ others r i) →
    record_table objects ≡ record_table others
record_table_same objects others same =
    table_is others (record_table objects) (length_record_table objects)
    (λ i l. word_record_table objects i l ∙ same (i / record_words) (i % record_words) (omega arith) (omega arith))

-- where a table has a word of a record
pub object_at_word : (table : List ℕ) (number index : ℕ) → index < record_words → word table (number * record_words + index) ≡ object_at table number index
unfolding object_at
object_at_word table number index l =
    rw (lt-ltb index record_words l) (let e : number * record_words + index ≡ record_words * number + index = omega arith in ap (word table) e)

pub object_at_end : (table : List ℕ) → Sized table → RecordsEnd (object_at table)
object_at_end table size = record { records_end = records_past table size; words_end = words_past table }

-- words that end where a record does
abbrev pub WordsEnd : (ℕ → ℕ) → Type 0
WordsEnd row = (i : ℕ) → record_words ≤ i → row i ≡ 0

pub words_end : (words : List ℕ) → length words ≤ record_words → WordsEnd (word words)
words_end words short i l = get_or-eq_default words 0 (omega arith)

pub put_record_end : (objects : ℕ → ℕ → ℕ) (number : ℕ) (row : ℕ → ℕ) → number < records → RecordsEnd objects → WordsEnd row →
    RecordsEnd (put objects number row)
put_record_end objects number row l ends row_ends =
    record {
      records_end = λ r i o. rw (put_other objects number row r (omega arith)) (ends.records_end r i o);
      words_end =
          λ r i o.
          cases (eqb r number)
          (λ (t : eqb r number ≡ true). rw (eqb-true r number t, put_same objects number row) (row_ends i o))
          (λ (f : eqb r number ≡ false). rw (put_other objects number row r (eqb-false r number f)) (ends.words_end r i o));
    }

-- some records with a row in the place of one
module _ (objects : ℕ → ℕ → ℕ) (number : ℕ) where
  -- a record's own row changes nothing
  put_back : put objects number (objects number) ≡ objects
  put_back =
      fun_ext
      (λ r.
      cases (eqb r number) (λ (t : eqb r number ≡ true). rw (eqb-true r number t, put_same objects number (objects number)))
      (λ (f : eqb r number ≡ false). put_other objects number (objects number) r (eqb-false r number f)))

  -- rows that agree at a word of the record agree there
  put_agrees : (row other : ℕ → ℕ) (r i : ℕ) → (r ≡ number → row i ≡ other i) → put objects number row r i ≡ put objects number other r i
  put_agrees row other r i same =
      cases (eqb r number)
      (λ (t : eqb r number ≡ true).
      rw (eqb-true r number t, put_same objects number row, put_same objects number other) (same (eqb-true r number t)))
      (λ (f : eqb r number ≡ false).
      rw (put_other objects number row r (eqb-false r number f), put_other objects number other r (eqb-false r number f)))

  module _ (row : ℕ → ℕ) (index value : ℕ) where
    word_there : put objects number (put row index value) number index ≡ value
    word_there = rw (put_same objects number (put row index value), put_same row index value)

    word_elsewhere : (r i : ℕ) → (r ≡ number → i ≡ index → ⊥) → put objects number (put row index value) r i ≡ put objects number row r i
    word_elsewhere r i n = put_agrees (put row index value) row r i (λ e. put_other row index value i (n e))

    -- a store in the table of these records changes a word of the row
    stored : {table : List ℕ} → number < records → index < record_words → table ≡ record_table (put objects number row) →
        set table (number * record_words + index) value ≡ record_table (put objects number (put row index value))
    stored {table} l k e =
        let at = number * record_words + index in
        let size : Sized table = rw e (length_record_table (put objects number row)) in
        table_is (put objects number (put row index value)) (set table at value) (length-set table at value ∙ size)
        (λ i o.
        cases (eqb i at)
        (λ (t : eqb i at ≡ true).
        let there : i ≡ at = eqb-true i at t in
        let r : i / record_words ≡ number = omega arith in
        let w : i % record_words ≡ index = omega arith in
        rw (r, w, word_there, there) (get_or-set_same table at value 0 (omega arith)))
        (λ (f : eqb i at ≡ false).
        let other : i ≢ at = eqb-false i at f in
        rw (
          get_or-set_other table at i value 0 other,
          word_elsewhere (i / record_words) (i % record_words) (λ r w. other (omega arith)),
          e,
        )
        (word_record_table (put objects number row) i o)))

-- the store of a word of a record
pub word_stored : (table : List ℕ) (number index value : ℕ) → Sized table → number < records → index < record_words →
    set table (number * record_words + index) value ≡ stored_word table number index value
word_stored table number index value size small l =
    let objects = object_at table in
    stored objects number (objects number) index value {table = table} small l (rw (put_back objects number) (sym (record_table_back table size)))

-- a table with the words of a record copied into it
pub copied : (table words : List ℕ) (number : ℕ) → Sized table → number < records → length words ≡ record_words →
    take (number * record_words) table ++ words ++ drop (number * record_words + record_words) table ≡ record_table (put (object_at table) number (word words))
copied table words number size l long =
    let start = number * record_words in
    let before = take start table in
    let after = drop (start + record_words) table in
    let before_long : length before ≡ start = length-take-le start table (omega arith) in
    let front_long : length (before ++ words) ≡ start + record_words = length-append before words ∙ omega arith in
    let after_long : length after ≡ length table - (start + record_words) = length-drop (start + record_words) table in
    let whole : length (before ++ words ++ after) ≡ object_table_words = length-append (before ++ words) after ∙ omega arith in
    table_is (put (object_at table) number (word words)) (before ++ words ++ after) whole
    (λ i o.
    let r = i / record_words in
    let k = i % record_words in
    let there : r * record_words + k ≡ i = omega arith in
    cases (eqb r number)
    (λ (t : eqb r number ≡ true).
    let same : r ≡ number = eqb-true r number t in
    let inside : i < length (before ++ words) = omega arith in
    let past : start ≤ i = omega arith in
    let index : i - start ≡ k = omega arith in
    rw (same, put_same (object_at table) number (word words))
    (get_or-append (before ++ words) after 0 i inside ∙ get_or-append_right before words start i 0 before_long past ∙ rw index))
    (λ (f : eqb r number ≡ false).
    let apart = eqb-false r number f in
    let kept : word table i ≡ object_at table r k = rw there at (object_at_word table r k (omega arith)) in
    rw (put_other (object_at table) number (word words) r apart)
    (cases (ltb i start)
    (λ (b : ltb i start ≡ true).
    let early : i < start = ltb-true i start b in
    get_or-append (before ++ words) after 0 i (omega arith) ∙ get_or-append before words 0 i (omega arith) ∙ get_or-take start table i 0 early ∙ kept)
    (λ (g : ltb i start ≡ false).
    let late : start ≤ i = ltb-false i start g in
    let beyond : start + record_words ≤ i = omega (arith, apart) in
    let back : start + record_words + (i - (start + record_words)) ≡ i = omega arith in
    get_or-append_right (before ++ words) after (start + record_words) i 0 front_long beyond ∙ get_or-drop (start + record_words) table (i - (start + record_words)) 0 ∙ rw back kept))))

-- zeros after a list of words change none of them
pub short_words : (words : List ℕ) (zeros : ℕ) → word (words ++ replicate zeros 0) ≡ word words
short_words words zeros = fun_ext (go words zeros)
  where
    go : (words : List ℕ) (zeros i : ℕ) → word (words ++ replicate zeros 0) i ≡ word words i
    go [] zero i = refl
    go [] (suc zeros) zero = refl
    go [] (suc zeros) (suc i) = go [] zeros i
    go (first ∷ words) zeros zero = refl
    go (first ∷ words) zeros (suc i) = go words zeros i
