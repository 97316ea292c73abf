-- An object table as a list of words: its length, its records as a state, and what a store makes of it.
use Rattle.std.specs.Prelude.{ℕ, ◌≡◌, List, [], ◌∷◌, length}
use Rattle.interface.specs.Basics.{put}
use Rattle.interface.specs.Places.{State, nothing, object_table_words, object_at, record_table}
use Rattle.objects.specs.declared.Record.{Record}

-- a list that has the object table's length
abbrev pub Sized : List ℕ → Type 0
Sized table = length table ≡ object_table_words

-- the records of a table without any places
abbrev pub records_in : List ℕ → State
records_in table = record { caps = λ p. nothing; objects = object_at table }

-- a table with a value stored in a word of a record
abbrev pub stored_word : List ℕ → ℕ → ℕ → ℕ → List ℕ
stored_word table number index value = record_table (put (object_at table) number (put (object_at table number) index value))

-- the words of a record, the kind first
abbrev pub words_of : Record → List ℕ
words_of words = words.0 ∷ words.1 ∷ words.2 ∷ words.3 ∷ words.4 ∷ []
