-- What the functions over records cite beside the rules of damage: the rules of a record taken together, and records whose PDs are numbered and counted.
use Rattle.std.specs.Prelude.{Option, Some, None, ℕ, ◌*◌, ◌≤◌, ◌<◌, ◌≡◌, Bool, true, ◌&&◌, ◌||◌, List, [], ◌∷◌, eqb, ltb, length, if◌then◌else◌}
use Rattle.words.specs.Sizes.{records, record_words}
use Rattle.interface.specs.Basics.{word, all_below}
use Rattle.interface.specs.Places.{State, free, object_table_words, kind_of}
pub use Rattle.objects.specs.Records.{records_in}
use Rattle.interface.specs.Damage.{fixed_record, interrupt_rule, unnamed_rule, used_first, pds_below, pd_rule, ec_rule, sc_rule, pt_rule}

-- whether a record's words from an index on are 0
unfoldable pub clear_from : State → ℕ → ℕ → Bool
clear_from s r index = all_below record_words (λ k. ltb k index || eqb (s.objects r k) 0)

-- whether the words of the records from one on are 0
unfoldable pub rest_clear : List ℕ → ℕ → Bool
rest_clear table r = all_below object_table_words (λ i. ltb i (record_words * r) || eqb (word table i) 0)

-- whether a record's words are four given ones and then 0
unfoldable pub has_words : State → ℕ → ℕ → ℕ → ℕ → ℕ → Bool
has_words s r kind first second third = all_below record_words (λ k. eqb (s.objects r k) (word (kind ∷ first ∷ second ∷ third ∷ []) k))

-- whether a record keeps the rules of records other than that of PDs
unfoldable pub record_keeps : State → ℕ → Bool
record_keeps s r = fixed_record s r && interrupt_rule s r && unnamed_rule s r && used_first s r && ec_rule s r && sc_rule s r && pt_rule s r

-- how many PDs there are, if each keeps its rule and so do used records and free ones
abbrev pub counted_pds : State → Option ℕ
counted_pds s = if all_below records (used_first s) && all_below records (pd_rule s) then Some (pds_below s records) else None

-- so many records come before the first free one, or all are used
pub record UsedBefore (s : State) (count : ℕ) : Type 0 where
  pub few : count ≤ records
  pub used : (r : ℕ) → r < count → kind_of s r ≡ free → ⊥
  pub then_free : count < records → kind_of s count ≡ free

-- used records come first in an object table, and its PDs keep their rule and are so many
pub record Numbered (table : List ℕ) (pds : ℕ) : Type 0 where
  pub long : length table ≡ object_table_words
  pub used : all_below records (used_first (records_in table)) ≡ true
  pub in_turn_lem : all_below records (pd_rule (records_in table)) ≡ true
  pub counted : pds ≡ pds_below (records_in table) records

-- the records of an object table keep their rules, and the PDs are so many
pub record Kept (table : List ℕ) (pds : ℕ) : Type 0 where
  pub numbered : Numbered table pds
  pub others : all_below records (record_keeps (records_in table)) ≡ true
