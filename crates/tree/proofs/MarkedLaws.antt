-- Laws of the place table: what changing the marked places in turn leaves.
use Prim.Native.Nat.{ℕ, ◌+◌, ◌≤◌, ◌<◌}
use mathlib.Core.Path.{◌≡◌, sym, ap, ◌∙◌}
use mathlib.Core.Bool.{true, false}
use mathlib.Core.List.{List}
use native.Mathlib.Omega.{arith}
use lib.Dec.{eqb, ltb}
use lib.ListN.{length}
use borrow.Author.Tests.{eqb-true, eqb-false, lt-ltb, le-ltb, ltb-true, ltb-false}
use Rattle.words.specs.Sizes.{places}
use Rattle.std.specs.Prelude.{if◌then◌else◌}
use Rattle.interface.specs.Basics.{put}
use Rattle.interface.specs.Places.{Cap, cap_at, cap_table}
use Rattle.interface.proofs.Basics.BoolLaws.{cases}
use Rattle.interface.proofs.Basics.PutLaws.{put_same, put_other}
use Rattle.interface.proofs.Tables.TableLaws.{cap_table_back}
use Rattle.marks.specs.PlaceBits.{bit_at, NoneMarked, NextMarked}
use Rattle.places.specs.Table.{Sized}
use Rattle.places.proofs.CapTableLaws.{length_cap_table, cap_table_same, cap_at_table_below}
use Rattle.tree.specs.Changing.{changed_where}

-- a table of capabilities has the place table's length
pub is_sized : (caps : ℕ → Cap) {table : List ℕ} → table ≡ cap_table caps → Sized table
is_sized caps e = ap length e ∙ length_cap_table caps

-- the marked places of a table, changed in turn
module _ (table marks : List ℕ) (change : Cap → Cap) where
  abbrev left : ℕ → Cap
  left = changed_where (bit_at marks) change (cap_at table)

  left_marked : (p : ℕ) → bit_at marks p ≡ true → left p ≡ change (cap_at table p)
  unfolding changed_where
  left_marked p t = rw t

  left_unmarked : (p : ℕ) → bit_at marks p ≡ false → left p ≡ cap_at table p
  unfolding changed_where
  left_unmarked p f = rw f

  -- the places below a number as the change leaves them, and the others as they were
  unfoldable pub left_below : ℕ → ℕ → Cap
  left_below number p = if ltb p number then left p else cap_at table p

  left_before : (number p : ℕ) → p < number → left_below number p ≡ left p
  unfolding left_below
  left_before number p l = rw (lt-ltb p number l)

  left_from : (number p : ℕ) → number ≤ p → left_below number p ≡ cap_at table p
  unfolding left_below
  left_from number p l = rw (le-ltb p number l)

  -- up to the next marked place nothing changes
  same_until : {from next : ℕ} → NextMarked marks from next → cap_table (left_below from) ≡ cap_table (left_below next)
  same_until {from} {next} found =
      let later = found.later in
      cap_table_same (left_below from) (left_below next)
      (λ p l.
      cases (ltb p from)
      (λ (t : ltb p from ≡ true). let before = ltb-true p from t in left_before from p before ∙ sym (left_before next p (omega arith)))
      (λ (f : ltb p from ≡ false).
      let past = ltb-false p from f in
      cases (ltb p next)
      (λ (t : ltb p next ≡ true).
      let before = ltb-true p next t in
      left_from from p past ∙ sym (left_before next p before ∙ left_unmarked p (found.unmarked p past before)))
      (λ (g : ltb p next ≡ false). left_from from p past ∙ sym (left_from next p (ltb-false p next g)))))

  pub left_none : Sized table → table ≡ cap_table (left_below 0)
  left_none sized = sym (cap_table_back table sized) ∙ cap_table_same (cap_at table) (left_below 0) (λ p l. sym (left_from 0 p (omega arith)))

  pub left_more : {now after : List ℕ} {from place : ℕ} → now ≡ cap_table (left_below from) → NextMarked marks from place →
      after ≡ cap_table (put (cap_at now) place (change (cap_at now place))) → after ≡ cap_table (left_below (place + 1))
  left_more {now} {after} {from} {place} so_far found e =
      let there = so_far ∙ same_until found in
      let cap = change (cap_at now place) in
      let shows : (p : ℕ) → p < places → cap_at now p ≡ left_below place p = λ p small. rw there (cap_at_table_below (left_below place) p small) in
      let done : cap ≡ left place = ap (change) (shows place found.ends ∙ left_from place place (omega arith)) ∙ sym (left_marked place found.marked) in
      e ∙
      cap_table_same (put (cap_at now) place cap) (left_below (place + 1))
      (λ p small.
      cases (eqb p place)
      (λ (t : eqb p place ≡ true).
      let is : p ≡ place = eqb-true p place t in
      rw is (put_same (cap_at now) place cap ∙ done ∙ sym (left_before (place + 1) place (omega arith))))
      (λ (f : eqb p place ≡ false).
      let other = eqb-false p place f in
      put_other (cap_at now) place cap p other ∙ shows p small ∙
      cases (ltb p place)
      (λ (t : ltb p place ≡ true). let before = ltb-true p place t in left_before place p before ∙ sym (left_before (place + 1) p (omega arith)))
      (λ (g : ltb p place ≡ false). let past = ltb-false p place g in left_from place p past ∙ sym (left_from (place + 1) p (omega arith)))))

  -- where none is left all are changed
  pub left_all : {now : List ℕ} {from : ℕ} → now ≡ cap_table (left_below from) → NoneMarked marks from → now ≡ cap_table left
  left_all {now} {from} so_far none =
      so_far ∙
      cap_table_same (left_below from) left
      (λ p l.
      cases (ltb p from) (λ (t : ltb p from ≡ true). left_before from p (ltb-true p from t))
      (λ (f : ltb p from ≡ false).
      let past = ltb-false p from f in
      left_from from p past ∙ sym (left_unmarked p (none.unmarked p past l))))
