-- Filling the tables: what is filled below a number, one place or record more, the tables that are filled whole, and boot's ways out.
use Rattle.std.specs.Prelude.{Ok, Err}
use Prim.Native.Nat.{ℕ, ◌+◌, ◌≤◌, ◌<◌}
use mathlib.Core.Path.{◌≡◌, sym, ap, ◌∙◌}
use mathlib.Core.Bool.{Bool, true, false, not}
use mathlib.Core.List.{List}
use native.Mathlib.Omega.{arith}
use lib.Dec.{eqb}
use borrow.Author.Tests.{eqb-true, eqb-false, not-true, not-false}
use Rattle.words.specs.Sizes.{places, records}
use Rattle.reply.specs.declared.Refusal.TheVariants.{Damaged}
use Rattle.interface.specs.Basics.{word, put}
use Rattle.interface.specs.Places.{Cap, sized, cap_at, object_at, cap_table, record_table}
use Rattle.interface.specs.Boot.{boot_record, boot_cap}
use Rattle.interface.specs.Rules.{boot_reply, boot_tables}
use Rattle.interface.specs.Outcomes.{Booted}
use Rattle.interface.proofs.Basics.BoolLaws.{cases}
use Rattle.interface.proofs.Basics.PutLaws.{put_same, put_other}
use Rattle.interface.proofs.Tables.TableLaws.{cap_table_back, record_table_back, places_long, objects_long}
use Rattle.places.specs.Table.{Sized as SizedPlaces}
use Rattle.places.proofs.CapTableLaws.{length_cap_table, cap_at_table_below, cap_table_same}
use Rattle.objects.specs.declared.Record.{Record}
use Rattle.objects.specs.Records.{Sized as SizedObjects, words_of}
use Rattle.objects.proofs.RecordTableLaws.{length_record_table, object_at_table, object_at_end, words_end, put_record_end, record_table_same}

-- a place table whose places below a number hold what they do at boot
pub record PlacesBelow (number : ℕ) (table : List ℕ) : Type 0 where
  pub size : SizedPlaces table
  pub filled : (p : ℕ) → p < number → cap_at table p ≡ boot_cap p

-- an object table whose records below a number have their words of boot
pub record RecordsBelow (number : ℕ) (table : List ℕ) : Type 0 where
  pub size : SizedObjects table
  pub filled : (r : ℕ) → r < number → object_at table r ≡ word (boot_record r)

pub no_places : (table : List ℕ) → SizedPlaces table → PlacesBelow 0 table
no_places table size = record { size = size; filled = λ p l. absurd (omega arith) }

pub no_records : (table : List ℕ) → SizedObjects table → RecordsBelow 0 table
no_records table size = record { size = size; filled = λ r l. absurd (omega arith) }

-- functions that agree below a number agree below the next once the one is changed at that number to what the other has there
put_below : {A : Type 0} (f g : ℕ → A) (number : ℕ) (value : A) → ((n : ℕ) → n < number → f n ≡ g n) → value ≡ g number →
    (n : ℕ) → n < number + 1 → put f number value n ≡ g n
put_below f g number value below here n l =
    cases (eqb n number)
    (λ (t : eqb n number ≡ true). rw (eqb-true n number t, put_same f number value) here)
    (λ (d : eqb n number ≡ false).
    let other = eqb-false n number d in
    put_other f number value n other ∙ below n (omega (arith, other)))

-- one place more is stored, and one record
pub next_place : (number place : ℕ) (cap : Cap) (table after : List ℕ) → PlacesBelow number table → number < places → place ≡ number →
    cap ≡ boot_cap place → after ≡ cap_table (put (cap_at table) place cap) → PlacesBelow (number + 1) after
next_place number place cap table after below small is_place is_cap is_after =
    let caps = put (cap_at table) number cap in
    let stored : after ≡ cap_table caps = rw is_place at is_after in
    record {
      size = rw stored (length_cap_table caps);
      filled =
          λ p l.
          rw (stored, cap_at_table_below caps p (omega arith))
          (put_below (cap_at table) boot_cap number cap below.filled (rw is_place at is_cap) p l);
    }

pub next_record : (number object : ℕ) (words : Record) (table after : List ℕ) → RecordsBelow number table → number < records → object ≡ number →
    word (words_of words) ≡ word (boot_record object) → after ≡ record_table (put (object_at table) object (word (words_of words))) →
    RecordsBelow (number + 1) after
next_record number object words table after below small is_object is_row is_after =
    let row = word (words_of words) in
    let objects = put (object_at table) number row in
    let stored : after ≡ record_table objects = rw is_object at is_after in
    let ends = put_record_end (object_at table) number row small (object_at_end table below.size) (words_end (words_of words) (omega arith)) in
    record {
      size = rw stored (length_record_table objects);
      filled =
          λ r l.
          rw (stored, object_at_table objects ends)
          (put_below (object_at table) (λ r. word (boot_record r)) number row below.filled (rw is_object at is_row) r l);
    }

-- tables that are filled whole are boot's
pub all_places : (number : ℕ) (table : List ℕ) → PlacesBelow number table → places ≤ number → table ≡ cap_table boot_cap
all_places number table below past =
    sym (cap_table_back table below.size) ∙ cap_table_same (cap_at table) boot_cap (λ p l. below.filled p (omega arith))

pub all_records : (number : ℕ) (table : List ℕ) → RecordsBelow number table → records ≤ number → table ≡ record_table (λ r. word (boot_record r))
all_records number table below past =
    sym (record_table_back table below.size) ∙
    record_table_same (object_at table) (λ r. word (boot_record r)) (λ r i l k. ap (λ (row : ℕ → ℕ). row i) (below.filled r (omega arith)))

-- boot's ways out, by the code's test of the lengths
module _ (places_before objects_before : List ℕ) (right : Bool) (is_sized : right ≡ sized (record { places = places_before; objects = objects_before })) where
  pub places_sized : not right ≡ false → SizedPlaces places_before
  places_sized f = places_long (record { places = places_before; objects = objects_before }) (sym is_sized ∙ not-false right f)

  pub objects_sized : not right ≡ false → SizedObjects objects_before
  objects_sized f = objects_long (record { places = places_before; objects = objects_before }) (sym is_sized ∙ not-false right f)

  pub booted_not : not right ≡ true → Booted places_before objects_before places_before objects_before (Err Damaged)
  unfolding boot_reply boot_tables
  booted_not t = let f = sym is_sized ∙ not-true right t in record { replies = rw f; leaves = rw f }

  pub booted : {places_after_lem objects_after_lem : List ℕ} → not right ≡ false → places_after_lem ≡ cap_table boot_cap →
      objects_after_lem ≡ record_table (λ r. word (boot_record r)) → Booted places_before objects_before places_after_lem objects_after_lem (Ok 0)
  unfolding boot_reply boot_tables
  booted f p o = let t = sym is_sized ∙ not-false right f in record { replies = rw t; leaves = rw (t, p, o) }
