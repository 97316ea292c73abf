-- A sound state stays sound when a new object is stored in the lowest free record, and when words are stored in a used one.
use Prim.Native.Nat.{ℕ, zero, suc, ◌+◌, ◌-◌, ◌≤◌, ◌<◌}
use mathlib.Core.Path.{◌≡◌, refl, sym, ap, ◌∙◌}
use mathlib.Core.Logic.{⊎_elim}
use mathlib.Core.Bool.{Bool, true, false, not, ◌&&◌, ◌||◌}
use mathlib.Core.List.{List}
use native.Mathlib.Omega.{arith}
use lib.Dec.{eqb, leb, ltb}
use borrow.Author.Tests.{ltb-true, ltb-false, leb-true, leb-false, eqb-true, eqb-false, ne_eqb, le-leb, not-true}
use Rattle.words.specs.Sizes.{records, record_words}
use Rattle.std.specs.Prelude.{if◌then◌else◌}
use Rattle.interface.specs.Basics.{word, put_from, all_below}
use Rattle.interface.specs.Places.{State, free, PD, SC, SM, kind_word, kind_of}
use Rattle.interface.specs.Boot.{boot, boot_record, cpus, root_pd, root_sc}
use Rattle.interface.specs.Damage.{record_as_boot, fixed_record, interrupt_rule, used_first, pd_rule, between1}
use Rattle.interface.specs.Effects.{make, store, act}
use Rattle.interface.specs.Creations.{free_record}
use Rattle.interface.proofs.Basics.BoolLaws.{cases, not_both, and_left, and_right, both, or_right, or_second, either, or_none_left, or_none_right, false_not, asked, not_asked}
use Rattle.interface.proofs.Basics.BelowLaws.{all_below_at, lowest_holds, below_lowest}
use Rattle.interface.proofs.Basics.PutLaws.{put_same, put_other, put_from_before}
use Rattle.interface.proofs.Sound.Soundness.{Sound}
use Rattle.interface.proofs.Tables.Steps.{MakeFits, StoreFits}
use Rattle.interface.proofs.Sound.OneRecord.{KeepsRules, DiffersAt, stays_used, sound_but_one}

-- whether a record is one of those that stay as at boot
abbrev is_fixed : ℕ → Bool
is_fixed r = ltb r cpus || (leb root_pd r && leb r root_sc)

-- those records are among the first ones
fixed_small : (r : ℕ) → is_fixed r ≡ true → r < root_sc + 1
fixed_small r h =
    ⊎_elim (λ (e : ltb r cpus ≡ true). omega (arith, ltb-true r cpus e))
    (λ (e : (leb root_pd r && leb r root_sc) ≡ true). omega (arith, leb-true r root_sc (and_right (leb root_pd r) (leb r root_sc) e)))
    (either (ltb r cpus) (leb root_pd r && leb r root_sc) h)

-- at boot their kinds are PD, EC and SC
boot_kinds : all_below (root_sc + 1) (λ r. if is_fixed r then between1 SC (boot.objects r kind_word) else true) ≡ true
unfolding all_below boot_record
boot_kinds = refl

-- and a record that is as at boot has its kind of boot
fixed_kind : (s : State) (r : ℕ) → fixed_record s r ≡ true → is_fixed r ≡ true → between1 SC (kind_of s r) ≡ true
unfolding fixed_record
fixed_kind s r h f =
    let words_same = all_below_at record_words (λ i. eqb (s.objects r i) (boot.objects r i)) (asked (is_fixed r) (record_as_boot s r) h f) in
    let kind : kind_of s r ≡ boot.objects r kind_word = eqb-true (kind_of s r) (boot.objects r kind_word) (words_same kind_word (omega arith)) in
    let kinds = all_below_at (root_sc + 1) (λ q. if is_fixed q then between1 SC (boot.objects q kind_word) else true) boot_kinds in
    rw kind (asked (is_fixed r) (between1 SC (boot.objects r kind_word)) (kinds r (fixed_small r f)) f)

-- the lowest free record is free, and those below it are used
pub free_there : (s : State) → free_record s < records → kind_of s (free_record s) ≡ free
unfolding free_record
free_there s l = eqb-true (kind_of s (free_record s)) free (lowest_holds records (λ r. eqb (kind_of s r) free) l)

pub used_below_free : (s : State) (r : ℕ) → r < free_record s → kind_of s r ≡ free → ⊥
unfolding free_record
used_below_free s r l = eqb-false (kind_of s r) free (below_lowest records (λ q. eqb (kind_of s q) free) r l)

module _ (s : State) (k : Sound s) where
  -- so the fixed records of a sound state are of those kinds too
  fixed_range : (r : ℕ) → is_fixed r ≡ true → (1 ≤ kind_of s r) × (kind_of s r ≤ SC)
  fixed_range r f =
      let h : between1 SC (kind_of s r) ≡ true = fixed_kind s r (k.fixed_records r (omega (arith, fixed_small r f))) f in (
        leb-true 1 (kind_of s r) (and_left (leb 1 (kind_of s r)) (leb (kind_of s r) SC) h),
        leb-true (kind_of s r) SC (and_right (leb 1 (kind_of s r)) (leb (kind_of s r) SC) h),
      )

  -- so a record of a later kind is none of them, and keeps their rule with any words
  pub never_fixed : (t : State) (r : ℕ) → SC < kind_of s r → fixed_record t r ≡ true
  unfolding fixed_record
  never_fixed t r later = not_asked (is_fixed r) (record_as_boot t r) (λ f. omega (arith, later, fixed_range r f))

  -- the records of boot are used
  pub boot_used : (r : ℕ) → r ≤ root_sc → kind_of s r ≡ free → ⊥
  unfolding interrupt_rule
  boot_used r l e =
      cases (is_fixed r) (λ (f : is_fixed r ≡ true). omega (arith, fixed_range r f))
      (λ (f : is_fixed r ≡ false).
      let late : cpus ≤ r = ltb-false r cpus (or_none_left (ltb r cpus) (leb root_pd r && leb r root_sc) f) in
      let apart : (leb root_pd r && leb r root_sc) ≡ false = or_none_right (ltb r cpus) (leb root_pd r && leb r root_sc) f in
      cases (ltb r root_pd)
      (λ (early : ltb r root_pd ≡ true).
      let kind : eqb (kind_of s r) SM ≡ true =
      asked (leb cpus r && ltb r root_pd) (eqb (kind_of s r) SM) (k.interrupts r (omega arith))
      (both (leb cpus r) (ltb r root_pd) (le-leb cpus r late) early) in
      omega (arith, eqb-true (kind_of s r) SM kind))
      (λ (past : ltb r root_pd ≡ false).
      not_both (leb root_pd r && leb r root_sc)
      (both (leb root_pd r) (leb r root_sc) (le-leb root_pd r (ltb-false r root_pd past)) (le-leb r root_sc l)) apart))

  -- the record after a free one is free
  pub free_after : (r : ℕ) → suc r < records → kind_of s r ≡ free → kind_of s (suc r) ≡ free
  unfolding used_first
  free_after r l e =
      cases (eqb (kind_of s (suc r)) free) (eqb-true (kind_of s (suc r)) free)
      (λ (f : eqb (kind_of s (suc r)) free ≡ false).
      let h : (eqb (suc r) 0 || not (eqb (kind_of s (suc r - 1)) free)) ≡ true = rw f at (k.used_firsts (suc r) l) in
      let before : suc r - 1 ≡ r = omega arith in
      ⊎_elim (λ (z : eqb (suc r) 0 ≡ true). absurd (omega (arith, eqb-true (suc r) 0 z)))
      (λ (u : not (eqb (kind_of s (suc r - 1)) free) ≡ true).
      absurd (eqb-false (kind_of s (suc r - 1)) free (not-true (eqb (kind_of s (suc r - 1)) free) u) (rw before e)))
      (either (eqb (suc r) 0) (not (eqb (kind_of s (suc r - 1)) free)) h))

  -- the lowest free record comes after those of boot, and every record from it on is free
  pub free_past_boot : free_record s < records → root_sc < free_record s
  free_past_boot l =
      cases (leb (free_record s) root_sc)
      (λ (h : leb (free_record s) root_sc ≡ true). absurd (boot_used (free_record s) (leb-true (free_record s) root_sc h) (free_there s l)))
      (leb-false (free_record s) root_sc)

  pub free_from : (r : ℕ) → free_record s ≤ r → r < records → kind_of s r ≡ free
  free_from zero b l = absurd (omega (arith, free_past_boot (omega arith)))
  free_from (suc r) b l =
      cases (leb (free_record s) r)
      (λ (h : leb (free_record s) r ≡ true). free_after r l (free_from r (leb-true (free_record s) r h) (omega arith)))
      (λ (h : leb (free_record s) r ≡ false).
      let here : suc r ≡ free_record s = omega (arith, leb-false (free_record s) r h) in
      rw here (free_there s (omega arith)))

  -- storing a new object in the lowest free record changes no other
  pub made_differs : (words : List ℕ) → free_record s < records → DiffersAt (free_record s) s (act (make (free_record s) words) s)
  unfolding act
  made_differs words l =
      record {
        is_record = l;
        same_caps = refl;
        same_words = put_other s.objects (free_record s) (word words);
        same_kind = λ r b c u. absurd (u (free_from r b c));
        no_pd = λ e. omega (arith, free_there s l);
      }

module _ (s : State) (number : ℕ) (words : List ℕ) (k : Sound s) (fit : MakeFits s number words) where
  -- the record that a new object takes comes after those of boot
  past_boot : root_sc < number
  past_boot = rw fit.lowest_free (free_past_boot s k (rw fit.lowest_free at fit.is_record))

  -- no record but that one changes
  differs : DiffersAt number s (act (make number words) s)
  differs = rw fit.lowest_free (made_differs s k words (rw fit.lowest_free at fit.is_record))

  -- the new object has the kind that its words say
  made_kind : kind_of (act (make number words) s) number ≡ word words kind_word
  unfolding act
  made_kind = ap (λ (w : ℕ → ℕ). w kind_word) (put_same s.objects number (word words))

  -- the new object keeps the rules
  made_keeps : KeepsRules (act (make number words) s) number
  unfolding fixed_record interrupt_rule used_first
  made_keeps =
      let t = act (make number words) s in
      let used : eqb (kind_of t number) free ≡ false = ne_eqb (kind_of t number) free (λ e. fit.used (sym made_kind ∙ e)) in
      let before : eqb (kind_of s (number - 1)) free ≡ false =
      ne_eqb (kind_of s (number - 1)) free (used_below_free s (number - 1) (omega (arith, past_boot, fit.lowest_free))) in
      record {
        keeps_fixed = not_asked (is_fixed number) (record_as_boot t number) (λ f. omega (arith, past_boot, fixed_small number f));
        keeps_interrupt =
            not_asked (leb cpus number && ltb number root_pd) (eqb (kind_of t number) SM)
            (λ f. omega (arith, past_boot, ltb-true number root_pd (and_right (leb cpus number) (ltb number root_pd) f)));
        keeps_unnamed = fit.keeps_unnamed;
        keeps_used_first =
            rw used
            (or_right (eqb number 0) (not (eqb (kind_of t (number - 1)) free))
            (stays_used number s t differs (number - 1) (omega (arith, fit.is_record)) (false_not (eqb (kind_of s (number - 1)) free) before)));
        keeps_pd = fit.keeps_pd;
        keeps_ec = fit.keeps_ec;
        keeps_sc = fit.keeps_sc;
        keeps_pt = fit.keeps_pt;
      }

  -- storing a new object in the lowest free record leaves a sound state sound
  pub make_sound : Sound (act (make number words) s)
  make_sound = sound_but_one number s (act (make number words) s) differs k made_keeps

module _ (s : State) (number from : ℕ) (words : List ℕ) (k : Sound s) (fit : StoreFits s number from words) where
  -- the record keeps its kind
  kind_stays : kind_of (act (store number from words) s) number ≡ kind_of s number
  unfolding act
  kind_stays =
      ap (λ (w : ℕ → ℕ). w kind_word) (put_same s.objects number (put_from (s.objects number) from words)) ∙
      put_from_before (s.objects number) from words kind_word fit.past_kind

  -- no other record changes
  stored_differs : DiffersAt number s (act (store number from words) s)
  unfolding act
  stored_differs =
      record {
        is_record = fit.is_record;
        same_caps = refl;
        same_words = put_other s.objects number (put_from (s.objects number) from words);
        same_kind = λ r b l u. kind_stays;
        no_pd = fit.no_pd;
      }

  -- the record keeps the rules
  stored_keeps : KeepsRules (act (store number from words) s) number
  unfolding interrupt_rule used_first pd_rule
  stored_keeps =
      let t = act (store number from words) s in
      let used : eqb (kind_of s number) free ≡ false = ne_eqb (kind_of s number) free fit.used in
      record {
        keeps_fixed = fit.keeps_fixed;
        keeps_interrupt = rw kind_stays (k.interrupts number fit.is_record);
        keeps_unnamed = fit.keeps_unnamed;
        keeps_used_first =
            rw (kind_stays, used)
            (or_second (eqb number 0) (not (eqb (kind_of s (number - 1)) free)) (not (eqb (kind_of t (number - 1)) free))
            (stays_used number s t stored_differs (number - 1) (omega (arith, fit.is_record)))
            (rw used at (k.used_firsts number fit.is_record)));
        keeps_pd = rw (kind_stays, ne_eqb (kind_of s number) PD fit.no_pd);
        keeps_ec = fit.keeps_ec;
        keeps_sc = fit.keeps_sc;
        keeps_pt = fit.keeps_pt;
      }

  -- storing words that fit leaves a sound state sound
  pub store_sound : Sound (act (store number from words) s)
  store_sound = sound_but_one number s (act (store number from words) s) stored_differs k stored_keeps
