-- What is printed of a dump, and what repair does to its bytes.
use Rattle.std.specs.Prelude.{Option, Some, None}
use Prim.Native.Nat.{ℕ, zero, suc, ◌+◌, ◌-◌, ◌*◌, ◌/◌, ◌%◌, ◌^◌, ◌≤◌, ◌<◌}
use mathlib.Core.Path.{◌≡◌, refl, sym, ap, ◌∙◌}
use mathlib.Core.Logic.{◌⊎◌, inl, inr, ⊎_elim}
use mathlib.Core.Bool.{true, false}
use mathlib.Core.List.{List, ◌++◌}
use native.Mathlib.Omega.{arith}
use lib.ListN.{length, drop, get_or}
use borrow.Author.Tests.{lt-ltb, le-ltb, le-leb, lt-leb}
use Rattle.endian.specs.Numbers.{bytes_of}
use Rattle.endian.specs.Runs.{bytes_of_each}
use Rattle.reply.specs.declared.Fault.{Fault}
use Rattle.reply.specs.declared.Fault.TheVariants.{AtRecord, AtPlace}
use Rattle.interface.specs.Basics.{word}
use Rattle.interface.specs.Places.{Cap, Tables, nothing, cap_at, shown}
use Rattle.interface.specs.Damage.{sound, fault}
use Rattle.interface.specs.DamageReport.{FirstAtRecord, FirstAtPlace}
use Rattle.interface.proofs.Basics.BoolLaws.{cases}
use Rattle.interface.proofs.Consequences.DamageReportLaws.{damage_named}
use Rattle.repair_rules.specs.Repair.{stays, repaired}
use Rattle.repair_rules.specs.RepairFacts.{WholeChain, Long}
use Rattle.repair_rules.proofs.StateLaws.{stays_cap, gone_cap}
use Rattle.repair_rules.proofs.TablesLaws.{sized_long, long_sized, repaired_cap_lem, repaired_sized, empties_exactly, sound_after, repairs_once}
use Rattle.dump_format.specs.Dumps.{word_bytes, place_bytes, dump_bytes, tables_in, dump_of, repaired_dump, fault_line, broken_line, output, reporting}
use Rattle.dump_format.specs.DumpFacts.{IsDump, LineTells, DumpsBothWays, BytesExactly, SoundComesBack, ReportsWhole}
use Rattle.dump_format.proofs.ByteLaws.{tables_long, length_dump, dump_bytes_lem, tables_back, place_byte, record_byte, bytes_back, places_small, objects_small}
use Rattle.dump_format.proofs.FirstLaws.{first_record, first_place}

-- the line
module _ (bytes : List ℕ) where
  module _ (long : length bytes ≡ 50432) where
    pub told : output bytes ≡ fault_line (fault (tables_in bytes)) ++ repaired_dump bytes
    unfolding output
    told = rw (le-ltb (length bytes) dump_bytes (omega arith), le-ltb dump_bytes (length bytes) (omega arith))

    told_as : (found : Option Fault) → fault (tables_in bytes) ≡ found → output bytes ≡ fault_line found ++ repaired_dump bytes
    told_as found e = told ∙ ap (λ (f : Option Fault). fault_line f ++ repaired_dump bytes) e

    pub told_record : (rule r : ℕ) → FirstAtRecord (shown (tables_in bytes)) rule r → output bytes ≡ fault_line (Some (AtRecord rule r)) ++ repaired_dump bytes
    told_record rule r h = told_as (Some (AtRecord rule r)) (first_record (tables_in bytes) (tables_long bytes) rule r h)

    pub told_place : (rule p : ℕ) → FirstAtPlace (shown (tables_in bytes)) rule p → output bytes ≡ fault_line (Some (AtPlace rule p)) ++ repaired_dump bytes
    told_place rule p h = told_as (Some (AtPlace rule p)) (first_place (tables_in bytes) (tables_long bytes) rule p h)

    pub told_sound : sound (tables_in bytes) ≡ true → output bytes ≡ fault_line None ++ repaired_dump bytes
    told_sound h = told_as None ((damage_named.no_fault (tables_in bytes)).1 h)

pub line_tells : LineTells
unfolding output broken_line
line_tells =
    record {
      too_short = λ bytes l. rw (lt-ltb (length bytes) dump_bytes l);
      too_long = λ bytes l. rw (le-ltb (length bytes) dump_bytes (omega arith), lt-ltb dump_bytes (length bytes) l);
      by_fault = told;
      at_record = λ bytes rule r long h. told_record bytes long rule r h;
      at_place = λ bytes rule p long h. told_place bytes long rule p h;
      is_sound = told_sound;
    }

-- the repaired tables have their lengths, and words that fit where the found ones do
repaired_long : (t : Tables) → Long t → Long (repaired t)
repaired_long t long = sized_long (repaired t) (repaired_sized t (long_sized t long))

-- the four words of a place, by what it shows
same_word : (a b : List ℕ) (p k : ℕ) → k < 4 → cap_at a p ≡ cap_at b p → word a (4 * p + k) ≡ word b (4 * p + k)
unfolding cap_at
same_word a b p zero l e =
    let first : 4 * p + 0 ≡ 4 * p = omega arith in
    rw first (ap (λ (c : Cap). c.resource) e)
same_word a b p (suc zero) l e = ap (λ (c : Cap). c.permissions) e
same_word a b p (suc (suc zero)) l e = ap (λ (c : Cap). c.parent) e
same_word a b p (suc (suc (suc zero))) l e = ap (λ (c : Cap). c.depth) e
same_word a b p (suc (suc (suc (suc k)))) l e = absurd (omega arith)

no_word : (a : List ℕ) (p k : ℕ) → k < 4 → cap_at a p ≡ nothing → word a (4 * p + k) ≡ 0
unfolding cap_at
no_word a p zero l e =
    let first : 4 * p + 0 ≡ 4 * p = omega arith in
    rw first (ap (λ (c : Cap). c.resource) e)
no_word a p (suc zero) l e = ap (λ (c : Cap). c.permissions) e
no_word a p (suc (suc zero)) l e = ap (λ (c : Cap). c.parent) e
no_word a p (suc (suc (suc zero))) l e = ap (λ (c : Cap). c.depth) e
no_word a p (suc (suc (suc (suc k)))) l e = absurd (omega arith)

-- the bytes of 0
zero_byte : (j : ℕ) → get_or (bytes_of 4 0) j 0 ≡ 0
unfolding bytes_of
zero_byte zero = refl
zero_byte (suc zero) = refl
zero_byte (suc (suc zero)) = refl
zero_byte (suc (suc (suc zero))) = refl
zero_byte (suc (suc (suc (suc j)))) = refl

-- a place of the repaired table shows what it did, or nothing
same_or_nothing : (t : Tables) → Long t → (p : ℕ) → (cap_at (repaired t).places p ≡ cap_at t.places p) ⊎ (cap_at (repaired t).places p ≡ nothing)
same_or_nothing t long p =
    let fit = long_sized t long in
    cases (stays (shown t) p) (λ (h : stays (shown t) p ≡ true). inl (repaired_cap_lem t fit p ∙ stays_cap (shown t) p h))
    (λ (h : stays (shown t) p ≡ false). inr (repaired_cap_lem t fit p ∙ gone_cap (shown t) p h))

repaired_small : (t : Tables) → Long t → ((i : ℕ) → word t.places i < 2 ^ 32) → (i : ℕ) → word (repaired t).places i < 2 ^ 32
repaired_small t long small i =
    let p = i / 4 in
    let k = i % 4 in
    let e : 4 * (i / 4) + i % 4 ≡ i = omega arith in
    let there : word (repaired t).places (4 * p + k) < 2 ^ 32 =
    ⊎_elim
    (λ (same : cap_at (repaired t).places p ≡ cap_at t.places p). rw (same_word (repaired t).places t.places p k (omega arith) same) (small (4 * p + k)))
    (λ (none : cap_at (repaired t).places p ≡ nothing). rw (no_word (repaired t).places p k (omega arith) none) (omega arith)) (same_or_nothing t long p) in
    rw e at there

-- both ways
module _ (bytes : List ℕ) (is : IsDump bytes) where
  abbrev t : Tables
  t = tables_in bytes

  abbrev r : Tables
  r = repaired (tables_in bytes)

  r_long : Long r
  r_long = repaired_long t (tables_long bytes)

  same_objects : r.objects ≡ t.objects
  same_objects = empties_exactly.objects_stay t

  pub repaired_back : tables_in (repaired_dump bytes) ≡ repaired (tables_in bytes)
  unfolding repaired_dump
  repaired_back =
      tables_back r r_long (repaired_small t (tables_long bytes) (places_small bytes is))
      (λ i. rw same_objects (objects_small bytes is i))

  -- the bytes of a place
  module _ (p k : ℕ) (small : p < 3072) (few : k < 16) where
    at_word : 16 * p + k ≡ 4 * (4 * p + k / 4) + k % 4
    at_word = omega arith

    byte_there : (tables : Tables) → Long tables → get_or (dump_of tables) (16 * p + k) 0 ≡ get_or (bytes_of 4 (word tables.places (4 * p + k / 4))) (k % 4) 0
    byte_there tables long =
        ap (λ (n : ℕ). get_or (dump_of tables) n 0) at_word ∙ place_byte tables long (4 * p + k / 4) (k % 4) (omega arith) (omega arith)

    pub same_bytes_lem : cap_at r.places p ≡ cap_at t.places p → get_or (repaired_dump bytes) (16 * p + k) 0 ≡ get_or bytes (16 * p + k) 0
    unfolding repaired_dump
    same_bytes_lem e =
        byte_there r r_long ∙ ap (λ (n : ℕ). get_or (bytes_of 4 n) (k % 4) 0) (same_word r.places t.places p (k / 4) (omega arith) e) ∙
        sym (byte_there t (tables_long bytes)) ∙ ap (λ (l : List ℕ). get_or l (16 * p + k) 0) (bytes_back bytes is)

    pub no_bytes : cap_at r.places p ≡ nothing → get_or (repaired_dump bytes) (16 * p + k) 0 ≡ 0
    unfolding repaired_dump
    no_bytes e = byte_there r r_long ∙ ap (λ (n : ℕ). get_or (bytes_of 4 n) (k % 4) 0) (no_word r.places p (k / 4) (omega arith) e) ∙ zero_byte (k % 4)

  pub record_bytes : (i : ℕ) → 49152 ≤ i → get_or (repaired_dump bytes) i 0 ≡ get_or bytes i 0
  unfolding repaired_dump
  record_bytes i l =
      let e : place_bytes + (i - place_bytes) ≡ i = omega arith in
      let same : get_or (dump_of r) (place_bytes + (i - place_bytes)) 0 ≡ get_or (dump_of t) (place_bytes + (i - place_bytes)) 0 =
      record_byte r r_long (i - place_bytes) ∙ ap (λ (l : List ℕ). get_or (bytes_of_each (bytes_of word_bytes) l) (i - place_bytes) 0) same_objects ∙
      sym (record_byte t (tables_long bytes) (i - place_bytes)) in
      (rw e at same) ∙ ap (λ (l : List ℕ). get_or l i 0) (bytes_back bytes is)

pub dumps_both_ways : DumpsBothWays
dumps_both_ways = record { tables_back = tables_back; bytes_back = bytes_back; repaired_back = repaired_back }

repaired_length : (bytes : List ℕ) → length (repaired_dump bytes) ≡ 50432
unfolding repaired_dump
repaired_length bytes = length_dump (repaired (tables_in bytes)) (repaired_long (tables_in bytes) (tables_long bytes))

pub bytes_exactly : BytesExactly
bytes_exactly =
    record {
      staying =
          λ bytes is p k small few some why.
          let t = tables_in bytes in
          same_bytes_lem bytes is p k small few
          (⊎_elim (λ (l : p < 384). empties_exactly.hypervisor_stays t (tables_long bytes) p l some)
          (λ (c : WholeChain (shown t) p). empties_exactly.whole_stays t (tables_long bytes) p small some c) why);
      null_emptied = λ bytes is p k small few none. no_bytes bytes is p k small few (empties_exactly.null_emptied (tables_in bytes) (tables_long bytes) p small none);
      broken_emptied =
          λ bytes is p k small few past broken. no_bytes bytes is p k small few (empties_exactly.broken_emptied (tables_in bytes) (tables_long bytes) p small past broken);
      records_stay = record_bytes;
      as_long = repaired_length;
    }

-- a sound dump
comes_back : (bytes : List ℕ) → IsDump bytes → sound (tables_in bytes) ≡ true → output bytes ≡ fault_line None ++ bytes
unfolding repaired_dump
comes_back bytes is h =
    told_sound bytes is.long h ∙ ap (λ (d : List ℕ). fault_line None ++ d) (ap dump_of (repairs_once.sound_stays (tables_in bytes) h) ∙ bytes_back bytes is)

repaired_is_dump : (bytes : List ℕ) → IsDump (repaired_dump bytes)
unfolding repaired_dump
repaired_is_dump bytes =
    record {
      long = repaired_length bytes;
      are_bytes = dump_bytes_lem (repaired (tables_in bytes)) (repaired_long (tables_in bytes) (tables_long bytes));
    }

pub sound_comes_back : SoundComesBack
sound_comes_back =
    record {
      unchanged = comes_back;
      mended =
          λ bytes is records there.
          comes_back (repaired_dump bytes) (repaired_is_dump bytes)
          (ap sound (repaired_back bytes is) ∙ sound_after.if_records_were (tables_in bytes) (tables_long bytes) records there);
    }

pub reports_whole : ReportsWhole
unfolding reporting
reports_whole =
    record {
      counts = λ bytes before. refl;
      stands =
          λ bytes before l.
          let e : 0 + length (output bytes) ≡ length (output bytes) = omega arith in
          rw (le-leb (length (output bytes)) (length before) l) (ap (λ (n : ℕ). output bytes ++ drop n before) e);
      stays_short = λ bytes before l. rw (lt-leb (length (output bytes)) (length before) l);
    }
