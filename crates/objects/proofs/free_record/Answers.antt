-- The search finds the lowest free record.
use Rattle.std.specs.Prelude.{Some, None}
use Prim.Native.Nat.{ℕ, ◌<◌}
use mathlib.Core.Path.{◌≡◌, refl, sym}
use mathlib.Core.Bool.{Bool}
use mathlib.Core.List.{List}
use native.Mathlib.Omega.{arith}
use lib.Dec.{eqb}
use borrow.Author.Rules.{rules}
use borrow.Author.Tests.{tests}
use Rattle.words.specs.Sizes.{records}
use Rattle.layout.specs.declared.ObjectNumber.{ObjectNumber}
use Rattle.layout.specs.Numbers.{numbered}
use Rattle.layout.proofs.NumberLaws.{numbered_so, numbered_beyond}
use Rattle.interface.specs.Basics.{lowest}
use Rattle.interface.specs.Places.{free, kind_word, object_at}
use Rattle.interface.specs.Creations.{free_record}
use Rattle.objects.specs.Records.{records_in}
use Rattle.objects.proofs.WalkLaws.{find_lowest}
use Rattle.objects.proofs.free_record.Goals as goal

-- whether a record is free
abbrev is_free : List ℕ → ℕ → Bool
is_free table r = eqb (object_at table r kind_word) free

module _ (table : List ℕ) where
  none_free : lowest records (is_free table) ≡ records → None ≡ numbered (free_record (records_in table))
  unfolding free_record
  none_free e = sym (numbered_beyond (free_record (records_in table)) (omega (arith, e)))

  first_free : {record_number : ObjectNumber} {number : ℕ} → record_number.0 ≡ number → (number < records) × (lowest records (is_free table) ≡ number) →
      Some record_number ≡ numbered (free_record (records_in table))
  unfolding free_record
  first_free {record_number} is_number (l, e) = rw (e, ← is_number) (sym (numbered_so record_number.0 (omega arith)))

pub returns-in-None : goal.returns-in-None
returns-in-None c =
    let found = find_lowest (is_free c.args.table.now) _ _ _ _ refl c.find-first.ensures.ran (λ x b q k. search (rules, tests)) in
    none_free c.args.table.now (rw c.in-None.is at found)

pub counted-requires : goal.counted-requires
counted-requires c =
    let found = find_lowest (is_free c.args.table.now) _ _ _ _ refl c.find-first.ensures.ran (λ x b q k. search (rules, tests)) in
    (rw c.in-Some.is at found).0

pub returns-in-Some : goal.returns-in-Some
returns-in-Some c =
    let found = find_lowest (is_free c.args.table.now) _ _ _ _ refl c.find-first.ensures.ran (λ x b q k. search (rules, tests)) in
    first_free c.args.table.now c.counted.ensures (rw c.in-Some.is at found)
