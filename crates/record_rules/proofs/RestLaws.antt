-- Used records come first and free ones are all 0, exactly where the words from the first free one on are 0; then free records past the fixed ones keep the rules.
use Rattle.std.specs.Prelude.{Option, Some, None}
use Prim.Native.Nat.{ℕ, zero, suc, ◌+◌, ◌-◌, ◌*◌, ◌/◌, ◌%◌, ◌≤◌, ◌<◌}
use mathlib.Core.Path.{◌≡◌, refl, sym, ◌∙◌}
use mathlib.Core.Bool.{Bool, true, false, not}
use mathlib.Core.List.{List}
use native.Mathlib.Omega.{arith}
use lib.Dec.{eqb, leb, ltb}
use borrow.Author.Tests.{ltb-true, ltb-false, lt-ltb, leb-true, leb-false, eqb-true, eqb-false, eq-eqb, ne_eqb}
use Rattle.words.specs.Sizes.{records, record_words}
use Rattle.layout.specs.declared.ObjectNumber.{ObjectNumber}
use Rattle.layout.specs.Numbers.{numbered}
use Rattle.layout.proofs.NumberLaws.{numbered_past, numbered_inside}
use Rattle.interface.specs.Basics.{word, all_below}
use Rattle.interface.specs.Places.{State, free, kind_of, kind_word, object_at, object_table_words}
use Rattle.interface.specs.Boot.{root_sc}
use Rattle.interface.specs.Damage.{used_first, pds_below, pd_rule}
use Rattle.interface.specs.Creations.{free_record}
use Rattle.interface.proofs.Basics.BoolLaws.{cases, not_both, and_left, same_test}
use Rattle.interface.proofs.Basics.BelowLaws.{all_below_at, all_below_lem}
use Rattle.interface.proofs.Basics.LoopLaws.{answered_yes, answered_no}
use Rattle.interface.proofs.Sound.SoundObjects.{free_there, used_below_free}
use Rattle.objects.proofs.CountingLaws.{pds_same}
use Rattle.record_rules.specs.RecordKeeping.{records_in, clear_from, rest_clear, record_keeps, counted_pds, UsedBefore}
use Rattle.record_rules.proofs.TailLaws.{from_at, from_so}
use Rattle.record_rules.proofs.RecordTests.{free_so, used_at_0, used_after, pd_not, free_keeps}
use Rattle.record_rules.proofs.PdLaws.{out_of_use, in_turn_lem}

-- the lowest free record has the used ones before it
module _ (s : State) (found : (Option ObjectNumber)) (is_found : found ≡ numbered (free_record s)) where
  pub none_free : found ≡ None → UsedBefore s records
  none_free e =
      let past : records ≤ free_record s = numbered_past (free_record s) (sym is_found ∙ e) in
      record { few = omega arith; used = λ r l. used_below_free s r (omega arith); then_free = λ l. absurd (omega arith) }

  pub first_free : (first : ObjectNumber) (number : ℕ) → found ≡ Some first → number ≡ first.0 → UsedBefore s number
  first_free first number e n =
      let (lowest_is, small) = numbered_inside (free_record s) first (sym is_found ∙ e) in
      let same : number ≡ free_record s = omega arith in
      rw same (record { few = omega arith; used = used_below_free s; then_free = free_there s })

-- records that are used keep the rule that used ones come first
used_below : (s : State) (n : ℕ) → UsedBefore s n → (r : ℕ) → r < n → used_first s r ≡ true
used_below s n before zero l = sym (used_at_0 s 0 (kind_of s 0) refl (before.used 0 l) refl)
used_below s n before (suc r) l =
    let back : suc r - 1 ≡ r = omega arith in
    sym (used_after s (suc r) (kind_of s (suc r)) refl (kind_of s r) (before.used (suc r) l) (λ z. omega arith) (rw back)) ∙
    rw (ne_eqb (kind_of s r) free (before.used r (omega arith)))

module _ (s : State) (used : all_below records (used_first s) ≡ true) where
  -- a record after a free one is free
  free_next : (r : ℕ) → suc r < records → kind_of s r ≡ free → kind_of s (suc r) ≡ free
  free_next r l e =
      cases (eqb (kind_of s (suc r)) free) (λ (t : eqb (kind_of s (suc r)) free ≡ true). eqb-true (kind_of s (suc r)) free t)
      (λ (f : eqb (kind_of s (suc r)) free ≡ false).
      let back : suc r - 1 ≡ r = omega arith in
      let asked : not (eqb (kind_of s r) free) ≡ used_first s (suc r) =
      used_after s (suc r) (kind_of s (suc r)) refl (kind_of s r) (eqb-false (kind_of s (suc r)) free f) (λ z. omega arith) (rw back) in
      not_both (used_first s (suc r)) (all_below_at records (used_first s) used (suc r) l) (sym asked ∙ rw (eq-eqb (kind_of s r) free e)))

  free_on : (first : ℕ) → kind_of s first ≡ free → (r : ℕ) → first ≤ r → r < records → kind_of s r ≡ free
  free_on first e zero from l = let same : first ≡ zero = omega arith in rw same at e
  free_on first e (suc r) from l =
      cases (leb first r) (λ (t : leb first r ≡ true). free_next r l (free_on first e r (leb-true first r t) (omega arith)))
      (λ (f : leb first r ≡ false). let past = leb-false first r f in let same : first ≡ suc r = omega arith in rw same at e)

  -- and is all 0
  free_clear : (first : ℕ) → kind_of s first ≡ free → (r : ℕ) → first ≤ r → r < records → clear_from s r kind_word ≡ true
  free_clear first e r from l =
      free_so s r (kind_of s r) refl (clear_from s r kind_word) (free_on first e r from l) refl ∙ all_below_at records (used_first s) used r l

  -- so the first free record keeps the rules together with all that follow, where it is past the fixed ones
  pub free_decides : (first kind : ℕ) → first < records → kind ≡ kind_of s first → kind ≡ free → all_below first (record_keeps s) ≡ true →
      ltb root_sc first ≡ all_below records (record_keeps s)
  free_decides first kind l known none before =
      let is_free_lem : kind_of s first ≡ free = sym known ∙ none in
      same_test (ltb root_sc first) (all_below records (record_keeps s))
      (λ (h : ltb root_sc first ≡ true).
      let late : root_sc < first = ltb-true root_sc first h in
      all_below_lem records (record_keeps s)
      (λ r b.
      cases (ltb r first) (λ (t : ltb r first ≡ true). all_below_at first (record_keeps s) before r (ltb-true r first t))
      (λ (f : ltb r first ≡ false).
      let from : first ≤ r = ltb-false r first f in
      sym (free_keeps s r (kind_of s r) refl (free_on first is_free_lem r from b) true (sym (free_clear first is_free_lem r from b))) ∙ rw (lt-ltb root_sc r (omega arith)))))
      (λ (t : all_below records (record_keeps s) ≡ true).
      and_left (ltb root_sc first) (clear_from s first kind_word)
      (free_keeps s first kind known none (clear_from s first kind_word) refl ∙ all_below_at records (record_keeps s) t first l))

module _ (table : List ℕ) (first : ℕ) where
  -- where the words from a record on are 0, those of each record from it on are
  rest_word : rest_clear table first ≡ true → (r k : ℕ) → first ≤ r → r < records → k < record_words → object_at table r k ≡ 0
  unfolding object_at rest_clear
  rest_word clear r k from l b =
      rw (lt-ltb k record_words b)
      (eqb-true (word table (record_words * r + k)) 0
      (from_at object_table_words (λ i. eqb (word table i) 0) (record_words * first) clear (record_words * r + k) (omega arith) (omega arith)))

  rest_record : rest_clear table first ≡ true → (r : ℕ) → first ≤ r → r < records → clear_from (records_in table) r kind_word ≡ true
  unfolding clear_from
  rest_record clear r from l =
      from_so record_words (λ k. eqb (object_at table r k) 0) kind_word (λ k past b. eq-eqb (object_at table r k) 0 (rest_word clear r k from l b))

  -- and the other way round
  record_rest : ((r : ℕ) → first ≤ r → r < records → clear_from (records_in table) r kind_word ≡ true) → rest_clear table first ≡ true
  unfolding object_at rest_clear clear_from
  record_rest clear =
      from_so object_table_words (λ i. eqb (word table i) 0) (record_words * first)
      (λ i past b.
      let r = i / record_words in
      let k = i % record_words in
      let there : record_words * r + k ≡ i = omega arith in
      let small : k < record_words = omega arith in
      let from : first ≤ r = omega arith in
      let l : r < records = omega arith in
      let zeros = from_at record_words (λ j. eqb (object_at table r j) 0) kind_word (clear r from l) k (omega arith) small in
      rw there at (rw (lt-ltb k record_words small) at zeros))

  -- after used records, up to the first free one, used records come first exactly where all words from it on are 0
  module _ (clear : Bool) (is_clear : clear ≡ rest_clear table first) (before : UsedBefore (records_in table) first) where
    abbrev s : State
    s = records_in table

    rest_broken : not clear ≡ true → all_below records (used_first s) ≡ false
    rest_broken f =
        cases (all_below records (used_first s))
        (λ (t : all_below records (used_first s) ≡ true).
        answered_no clear (rest_clear table first) is_clear f
        (record_rest (λ r from l. free_clear s t first (before.then_free (omega arith)) r from l)))
        (λ (g : all_below records (used_first s) ≡ false). g)

    rest_used : rest_clear table first ≡ true → all_below records (used_first s) ≡ true
    rest_used zeros =
        all_below_lem records (used_first s)
        (λ r l.
        cases (ltb r first) (λ (t : ltb r first ≡ true). used_below s first before r (ltb-true r first t))
        (λ (f : ltb r first ≡ false).
        let from : first ≤ r = ltb-false r first f in
        sym (free_so s r (kind_of s r) refl true (rest_word zeros r kind_word from l (omega arith)) (sym (rest_record zeros r from l)))))

    pub rest_out : not clear ≡ true → None ≡ counted_pds s
    rest_out f = out_of_use s (rest_broken f)

    -- no free record is a PD
    rest_pds : rest_clear table first ≡ true → (n : ℕ) → first ≤ n → n ≤ records → pds_below s n ≡ pds_below s first
    rest_pds zeros zero from l = let same : first ≡ zero = omega arith in rw same
    rest_pds zeros (suc n) from l =
        cases (leb first n)
        (λ (t : leb first n ≡ true).
        let past : first ≤ n = leb-true first n t in
        let is_free_lem : kind_of s n ≡ free = rest_word zeros n kind_word past (omega arith) (omega arith) in
        let more : pds_below s n ≡ pds_below s (n + 1) = pds_same s n (kind_of s n) (pds_below s n) refl refl (λ e. omega arith) in
        let same : n + 1 ≡ suc n = omega arith in
        rw same at (sym more ∙ rest_pds zeros n past (omega arith)))
        (λ (f : leb first n ≡ false). let past = leb-false first n f in let same : first ≡ suc n = omega arith in rw same)

    pub rest_in : (pds : ℕ) → not clear ≡ false → pds ≡ pds_below s first → all_below first (pd_rule s) ≡ true → Some pds ≡ counted_pds s
    rest_in pds f counted kept =
        let zeros : rest_clear table first ≡ true = answered_yes clear (rest_clear table first) is_clear f in
        in_turn_lem s pds (rest_used zeros)
        (all_below_lem records (pd_rule s)
        (λ r b.
        cases (ltb r first) (λ (t : ltb r first ≡ true). all_below_at first (pd_rule s) kept r (ltb-true r first t))
        (λ (g : ltb r first ≡ false).
        let is_free_lem : kind_of s r ≡ free = rest_word zeros r kind_word (ltb-false r first g) b (omega arith) in
        sym (pd_not s r (kind_of s r) refl (λ e. omega arith)))))
        (counted ∙ sym (rest_pds zeros records before.few (omega arith)))
