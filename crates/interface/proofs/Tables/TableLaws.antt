-- Tables and what they show: a table is that of what it shows, the tables of a state that ends where the tables do show that state, and sound tables have their lengths.
use Prim.Native.Nat.{ℕ, zero, suc, ◌+◌, ◌*◌, ◌/◌, ◌%◌, ◌≤◌, ◌<◌}
use mathlib.Core.Path.{◌≡◌, refl, sym, ap, ap₂, ◌∙◌, subst, fun_ext}
use mathlib.Core.Bool.{true, false}
use mathlib.Core.List.{List, [], ◌∷◌}
use native.Mathlib.Decide.{le_ind}
use native.Mathlib.Nat.{le_refl}
use native.Mathlib.Numerals.{add-one}
use native.Mathlib.Omega.{arith}
use lib.Dec.{eqb, ltb}
use lib.ListN.{length, take, length-append, get_or-append, get_or-eq_default}
use lib.Seq.{take_all, take-append-le, get_or_at, ext_get_or}
use borrow.Author.Tests.{eq-eqb, eqb-true, lt-ltb, le-ltb, ltb-true, ltb-false}
use Rattle.words.specs.Sizes.{places, place_words, records, record_words}
use Rattle.interface.specs.Basics.{word, listed}
use Rattle.interface.specs.Places.{State, Tables, nothing, place_table_words, object_table_words, sized, cap_at, object_at, shown, cap_words, cap_table, record_table, place_table, object_table, tables_of}
use Rattle.interface.specs.Damage.{sound_state, sound}
use Rattle.interface.proofs.Basics.BoolLaws.{cases, and_left, and_right, both}
use Rattle.interface.proofs.Basics.BelowLaws.{below_suc}

module _ {A : Type 0} (f : ℕ → A) where
  pub length_listed : (n : ℕ) → length (listed n f) ≡ n
  unfolding listed
  length_listed zero = refl
  length_listed (suc n) = simp length-append (rw (length_listed n, add-one))

  -- the first of a function's first values are its first values
  pub take_listed : (k n : ℕ) → k ≤ n → take k (listed n f) ≡ listed k f
  unfolding listed
  take_listed k n l =
      le_ind (λ (m : ℕ). take k (listed m f) ≡ listed k f) (take_all k (listed k f) (rw (length_listed k) (le_refl k)))
      (λ m b ih. take-append-le k (listed m f) (f m ∷ []) (rw (length_listed m) b) ∙ ih) n l

module _ (f : ℕ → ℕ) where
  pub word_listed : (n i : ℕ) → i < n → word (listed n f) i ≡ f i
  unfolding listed
  word_listed zero i l = absurd (omega arith)
  word_listed (suc n) i l =
      below_suc i n l
      (λ (b : i < n). get_or-append (listed n f) (f n ∷ []) 0 i (rw (length_listed f n) b) ∙ word_listed n i b)
      (λ (e : i ≡ n). rw e (get_or_at (listed n f) (f n) [] 0 n (length_listed f n)))

  pub word_past : (n i : ℕ) → n ≤ i → word (listed n f) i ≡ 0
  word_past n i l = get_or-eq_default (listed n f) 0 (rw (length_listed f n) l)

-- a function that tells a list's words lists them
listed_back : (list : List ℕ) (f : ℕ → ℕ) (n : ℕ) → length list ≡ n → ((i : ℕ) → f i ≡ word list i) → listed n f ≡ list
listed_back list f n e h = ext_get_or 0 (listed n f) list (length_listed f n ∙ sym e) (λ i l. word_listed f n i (rw (length_listed f n) at l) ∙ h i)

-- the words of a capability that a table shows are the table's
cap_word : (table : List ℕ) (p k : ℕ) → k < place_words → word (cap_words (cap_at table p)) k ≡ word table (place_words * p + k)
unfolding cap_at
cap_word table p zero l = ap (word table) (omega arith)
cap_word table p (suc zero) l = refl
cap_word table p (suc (suc zero)) l = refl
cap_word table p (suc (suc (suc zero))) l = refl
cap_word table p (suc (suc (suc (suc k)))) l = absurd (omega arith)

-- a word of a record that a table shows is the table's, and there is none past a record's words
record_word_lem : (table : List ℕ) (r i : ℕ) → i < record_words → object_at table r i ≡ word table (record_words * r + i)
unfolding object_at
record_word_lem table r i l = rw (lt-ltb i record_words l)

pub words_past : (table : List ℕ) (r i : ℕ) → record_words ≤ i → object_at table r i ≡ 0
unfolding object_at
words_past table r i l = rw (le-ltb i record_words l)

-- a list of the place table's length: its words past the end are 0, so what it shows ends where the places do, and it is the table of what it shows
module _ (table : List ℕ) (long : length table ≡ place_table_words) where
  past_end : (i : ℕ) → place_table_words ≤ i → word table i ≡ 0
  past_end i g = get_or-eq_default table 0 (rw long g)

  pub cap_at_end : (p : ℕ) → places ≤ p → cap_at table p ≡ nothing
  unfolding cap_at
  cap_at_end p g =
      rw (
        past_end (place_words * p) (omega arith),
        past_end (place_words * p + 1) (omega arith),
        past_end (place_words * p + 2) (omega arith),
        past_end (place_words * p + 3) (omega arith),
      )

  pub cap_table_back : cap_table (cap_at table) ≡ table
  cap_table_back =
      listed_back table (λ i. word (cap_words (cap_at table (i / place_words))) (i % place_words)) place_table_words long
      (λ i.
      let e : place_words * (i / place_words) + i % place_words ≡ i = omega arith in
      cap_word table (i / place_words) (i % place_words) (omega arith) ∙ ap (word table) e)

-- and so is a list of the object table's length with the records
module _ (table : List ℕ) (long : length table ≡ object_table_words) where
  pub records_past : (r i : ℕ) → records ≤ r → object_at table r i ≡ 0
  unfolding object_at
  records_past r i g =
      cases (ltb i record_words) (λ (t : ltb i record_words ≡ true). rw t (get_or-eq_default table 0 (omega arith)))
      (λ (f : ltb i record_words ≡ false). rw f)

  pub record_table_back : record_table (object_at table) ≡ table
  record_table_back =
      listed_back table (λ i. object_at table (i / record_words) (i % record_words)) object_table_words long
      (λ i.
      let e : record_words * (i / record_words) + i % record_words ≡ i = omega arith in
      record_word_lem table (i / record_words) (i % record_words) (omega arith) ∙ ap (word table) e)

-- tables that have their lengths
module _ (tables : Tables) (fit : sized tables ≡ true) where
  pub places_long : length tables.places ≡ place_table_words
  unfolding sized
  places_long =
      eqb-true (length tables.places) place_table_words
      (and_left (eqb (length tables.places) place_table_words) (eqb (length tables.objects) object_table_words) fit)

  pub objects_long : length tables.objects ≡ object_table_words
  unfolding sized
  objects_long =
      eqb-true (length tables.objects) object_table_words
      (and_right (eqb (length tables.places) place_table_words) (eqb (length tables.objects) object_table_words) fit)

-- sound tables have them, and show a state that keeps the rules
module _ (tables : Tables) (h : sound tables ≡ true) where
  pub sound_sized : sized tables ≡ true
  unfolding sound
  sound_sized = and_left (sized tables) (sound_state (shown tables)) h

  pub sound_shown : sound_state (shown tables) ≡ true
  unfolding sound
  sound_shown = and_right (sized tables) (sound_state (shown tables)) h

-- two states are the same where they show the same
pub state_same : (a b : State) → ((p : ℕ) → a.caps p ≡ b.caps p) → ((r i : ℕ) → a.objects r i ≡ b.objects r i) → a ≡ b
state_same a b c o = λ i. record { caps = fun_ext c i; objects = λ r k. o r k i }

-- a state ends where the tables do
pub record Ends (s : State) : Type 0 where
  pub places_end : (p : ℕ) → places ≤ p → s.caps p ≡ nothing
  pub records_end : (r i : ℕ) → records ≤ r → s.objects r i ≡ 0
  pub words_end : (r i : ℕ) → record_words ≤ i → s.objects r i ≡ 0

module _ (s : State) where
  -- the words of the tables, by their numbers
  abbrev place_word_at : ℕ → ℕ
  place_word_at i = word (cap_words (s.caps (i / place_words))) (i % place_words)

  abbrev object_word_at : ℕ → ℕ
  object_word_at i = s.objects (i / record_words) (i % record_words)

  pub tables_sized : sized (tables_of s) ≡ true
  unfolding sized
  tables_sized =
      both (eqb (length (place_table s)) place_table_words) (eqb (length (object_table s)) object_table_words)
      (eq-eqb (length (place_table s)) place_table_words (length_listed place_word_at place_table_words))
      (eq-eqb (length (object_table s)) object_table_words (length_listed object_word_at object_table_words))

  place_word_lem : (i p k : ℕ) → i < place_table_words → i / place_words ≡ p → i % place_words ≡ k → word (place_table s) i ≡ word (cap_words (s.caps p)) k
  place_word_lem i p k l d m = word_listed place_word_at place_table_words i l ∙ (rw (d, m))

  object_word : (j r i : ℕ) → j < object_table_words → j / record_words ≡ r → j % record_words ≡ i → word (object_table s) j ≡ s.objects r i
  object_word j r i l d m = word_listed object_word_at object_table_words j l ∙ ap₂ s.objects d m

  module _ (ends : Ends s) where
    pub shown_cap : (p : ℕ) → cap_at (place_table s) p ≡ s.caps p
    unfolding cap_at
    shown_cap p =
        cases (ltb p places)
        (λ (t : ltb p places ≡ true).
        let l : p < places = ltb-true p places t in
        rw (
          place_word_lem (place_words * p) p 0 (omega arith) (omega arith) (omega arith),
          place_word_lem (place_words * p + 1) p 1 (omega arith) (omega arith) (omega arith),
          place_word_lem (place_words * p + 2) p 2 (omega arith) (omega arith) (omega arith),
          place_word_lem (place_words * p + 3) p 3 (omega arith) (omega arith) (omega arith),
        ))
        (λ (f : ltb p places ≡ false).
        let g : places ≤ p = ltb-false p places f in
        rw (
          word_past place_word_at place_table_words (place_words * p) (omega arith),
          word_past place_word_at place_table_words (place_words * p + 1) (omega arith),
          word_past place_word_at place_table_words (place_words * p + 2) (omega arith),
          word_past place_word_at place_table_words (place_words * p + 3) (omega arith),
        )
        (sym (ends.places_end p g)))

    shown_word : (r i : ℕ) → object_at (object_table s) r i ≡ s.objects r i
    unfolding object_at
    shown_word r i =
        cases (ltb i record_words)
        (λ (t : ltb i record_words ≡ true).
        let b : i < record_words = ltb-true i record_words t in
        cases (ltb r records)
        (λ (u : ltb r records ≡ true).
        let l : r < records = ltb-true r records u in
        rw t (object_word (record_words * r + i) r i (omega arith) (omega arith) (omega arith)))
        (λ (u : ltb r records ≡ false).
        let g : records ≤ r = ltb-false r records u in
        rw (t, word_past object_word_at object_table_words (record_words * r + i) (omega arith)) (sym (ends.records_end r i g))))
        (λ (f : ltb i record_words ≡ false). rw f (sym (ends.words_end r i (ltb-false i record_words f))))

    pub shown_tables : shown (tables_of s) ≡ s
    shown_tables = state_same (shown (tables_of s)) s shown_cap shown_word

-- the tables of a sound state that ends where they do are sound
pub state_sound : (s : State) → Ends s → sound_state s ≡ true → sound (tables_of s) ≡ true
unfolding sound
state_sound s ends h =
    both (sized (tables_of s)) (sound_state (shown (tables_of s))) (tables_sized s) (subst (λ (t : State). sound_state t ≡ true) (sym (shown_tables s ends)) h)
