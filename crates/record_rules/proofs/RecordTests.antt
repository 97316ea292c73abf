-- The rules of records as the code tests them: what each definition gives on each way out of the function that tests it.
use Prim.Native.Nat.{ℕ, ◌+◌, ◌-◌, ◌≤◌, ◌<◌}
use mathlib.Core.Path.{◌≡◌, refl, sym, ap, ◌∙◌, fun_ext}
use mathlib.Core.Bool.{Bool, true, false, not, ◌&&◌, ◌||◌, and-true, and-false}
use mathlib.Core.List.{List, [], ◌∷◌, ◌++◌}
use native.Mathlib.Numerals.{add-one}
use native.Mathlib.Omega.{arith}
use lib.Dec.{eqb, leb, ltb, leb-suc-suc}
use lib.ListN.{replicate, get_or-eq_default}
use borrow.Author.Tests.{ltb-true, ltb-false, leb-true, lt-ltb, le-ltb, le-leb, lt-leb, eqb-true, eqb-false, eq-eqb, ne_eqb, not-false}
use Rattle.words.specs.Sizes.{object, domains, selectors, records, record_words}
use Rattle.std.specs.Prelude.{if◌then◌else◌}
use Rattle.interface.specs.Basics.{word, all_below}
use Rattle.interface.specs.Places.{State, free, PD, EC, SC, PT, SM, kind_of, named_words, kind_word, count_word, domain_word, cpu_word, event_base_word, ec_word, priority_word, quantum_word}
use Rattle.interface.specs.Boot.{root, cpus, root_pd, root_ec, root_sc, no_ec, root_priority, root_quantum, boot_record}
use Rattle.interface.specs.Damage.{fixed_record, interrupt_rule, unnamed_rule, used_first, pds_below, pd_rule, has_pd, is_ec, ec_rule, between1, greatest_priority, greatest_quantum, sc_rule, pt_rule}
use Rattle.interface.proofs.Basics.BoolLaws.{cases, same_test, not_both, and_left, and_right, each_of_four, or_none_left, or_none_right, not_asked}
use Rattle.interface.proofs.Basics.BelowLaws.{all_below_at}
use Rattle.objects.proofs.RecordTableLaws.{short_words}
use Rattle.record_rules.specs.RecordKeeping.{clear_from, has_words, record_keeps}
use Rattle.record_rules.proofs.RecordParts.{record_parts}
use Rattle.record_rules.proofs.TailLaws.{from_zero, after_four, from_same}

-- a test or another, as a choice
or_if : (a b : Bool) → (a || b) ≡ (if a then true else b)
or_if true b = refl
or_if false b = refl

module _ (s : State) (r : ℕ) where
  -- the tests of an SC
  abbrev named_ec : Bool
  named_ec = is_ec s (s.objects r ec_word)

  abbrev in_priority : Bool
  in_priority = between1 greatest_priority (s.objects r priority_word)

  abbrev in_quantum : Bool
  in_quantum = between1 greatest_quantum (s.objects r quantum_word)

  -- whether the words are those of a list
  abbrev has_list : List ℕ → Bool
  has_list words = all_below record_words (λ k. eqb (s.objects r k) (word words k))

  -- zeros after a list change nothing
  list_short : (words : List ℕ) (zeros : ℕ) → has_list (words ++ replicate zeros 0) ≡ has_list words
  list_short words zeros = ap (λ (row : ℕ → ℕ). all_below record_words (λ k. eqb (s.objects r k) (row k))) (short_words words zeros)

  -- four words and those after them
  pub has_words_so : (kind first second third a b d e : ℕ) (clear : Bool) → a ≡ kind_of s r → b ≡ s.objects r 1 → d ≡ s.objects r 2 → e ≡ s.objects r 3 →
      clear ≡ clear_from s r 4 → (eqb a kind && eqb b first && eqb d second && eqb e third && clear) ≡ has_words s r kind first second third
  unfolding has_words clear_from
  has_words_so kind first second third a b d e clear ka kb kd ke h =
      let words = kind ∷ first ∷ second ∷ third ∷ [] in
      let rest = from_same record_words 4 (λ k. eqb (s.objects r k) 0) (λ k. eqb (s.objects r k) (word words k))
      (λ k past. ap (eqb (s.objects r k)) (sym (get_or-eq_default words 0 past))) in
      rw (ka, kb, kd, ke, h ∙ rest) (after_four record_words (λ k. eqb (s.objects r k) (word words k)) (omega arith))

  -- a record of another kind has other words
  other_words : (kind other first second third : ℕ) → kind_of s r ≡ kind → (kind ≡ other → ⊥) → has_words s r other first second third ≡ false
  unfolding has_words
  other_words kind other first second third known apart =
      let words = other ∷ first ∷ second ∷ third ∷ [] in
      cases (has_list words)
      (λ (t : has_list words ≡ true).
      absurd (apart (sym known ∙ eqb-true (kind_of s r) other (all_below_at record_words (λ k. eqb (s.objects r k) (word words k)) t kind_word (omega arith)))))
      (λ (f : has_list words ≡ false). f)

  -- the fixed records
  module _ (same : Bool) where
    pub fixed_idle : r < cpus → same ≡ has_words s r SC no_ec 0 0 → same ≡ fixed_record s r
    unfolding fixed_record boot_record has_words
    fixed_idle l h = rw (lt-ltb r cpus l) (h ∙ list_short (SC ∷ no_ec ∷ []) 2)

    pub fixed_pd : r ≡ root_pd → same ≡ has_words s r PD root 0 0 → same ≡ fixed_record s r
    unfolding fixed_record boot_record has_words
    fixed_pd e h = h ∙ list_short (PD ∷ root ∷ []) 2 ∙ rw e

    pub fixed_ec : r ≡ root_ec → same ≡ has_words s r EC root 0 0 → same ≡ fixed_record s r
    unfolding fixed_record boot_record has_words
    fixed_ec e h = h ∙ list_short (EC ∷ root ∷ []) 2 ∙ rw e

    pub fixed_sc : r ≡ root_sc → same ≡ has_words s r SC root_ec root_priority root_quantum → same ≡ fixed_record s r
    unfolding fixed_record boot_record has_words
    fixed_sc e h = h ∙ rw e

  pub fixed_other : cpus ≤ r → (r ≡ root_pd → ⊥) → (r ≡ root_ec → ⊥) → (r ≡ root_sc → ⊥) → true ≡ fixed_record s r
  unfolding fixed_record
  fixed_other l a b d =
      cases (leb root_pd r)
      (λ (g : leb root_pd r ≡ true).
      let from : root_pd ≤ r = leb-true root_pd r g in
      rw (le-ltb r cpus l, g, lt-leb r root_sc (omega arith)))
      (λ (g : leb root_pd r ≡ false). rw (le-ltb r cpus l, g))

  -- the interrupts' records
  pub interrupt_so : (kind : ℕ) → kind ≡ kind_of s r → (ltb r cpus || leb root_pd r || eqb kind SM) ≡ interrupt_rule s r
  unfolding interrupt_rule
  interrupt_so kind e =
      cases (ltb r cpus) (λ (t : ltb r cpus ≡ true). let l : r < cpus = ltb-true r cpus t in rw (t, lt-leb cpus r l))
      (λ (f : ltb r cpus ≡ false).
      let l : cpus ≤ r = ltb-false r cpus f in
      cases (ltb r root_pd)
      (λ (t : ltb r root_pd ≡ true). let b : r < root_pd = ltb-true r root_pd t in rw (f, le-leb cpus r l, t, lt-leb root_pd r b, e))
      (λ (g : ltb r root_pd ≡ false). let b : root_pd ≤ r = ltb-false r root_pd g in rw (f, le-leb cpus r l, g, le-leb root_pd r b)))

  -- the words that a record does not name
  pub unnamed_so : (kind named : ℕ) (clear : Bool) → kind ≡ kind_of s r → named ≡ named_words kind → clear ≡ clear_from s r (named + 1) →
      (leb kind SM && (eqb kind free || clear)) ≡ unnamed_rule s r
  unfolding unnamed_rule clear_from
  unnamed_so kind named clear e n h =
      let upto : ◌≡◌ {A = ℕ → Bool} (λ k. ltb k (named + 1) || eqb (s.objects r k) 0) (λ k. leb k named || eqb (s.objects r k) 0) =
      fun_ext (λ k. rw (add-one named, leb-suc-suc k named)) in
      rw (h ∙ ap (all_below record_words) upto, n, e) (ap (λ (b : Bool). leb (kind_of s r) SM && b) (or_if (eqb (kind_of s r) free) _))

  -- used records and free ones
  module _ (kind : ℕ) (known : kind ≡ kind_of s r) where
    pub free_so : (zeros : Bool) → kind ≡ free → zeros ≡ clear_from s r kind_word → zeros ≡ used_first s r
    unfolding used_first clear_from
    free_so zeros e h =
        rw (eq-eqb (kind_of s r) free (sym known ∙ e)) (h ∙ from_zero record_words (λ k. eqb (s.objects r k) 0))

    pub used_at_0 : (kind ≡ free → ⊥) → r ≡ 0 → true ≡ used_first s r
    unfolding used_first
    used_at_0 u e = rw (ne_eqb (kind_of s r) free (λ f. u (known ∙ f)), eq-eqb r 0 e)

    pub used_after : (before : ℕ) → (kind ≡ free → ⊥) → (r ≡ 0 → ⊥) → before ≡ kind_of s (r - 1) → not (eqb before free) ≡ used_first s r
    unfolding used_first
    used_after before u n e = rw (ne_eqb (kind_of s r) free (λ f. u (known ∙ f)), ne_eqb r 0 n, e)

    -- PDs
    pub pd_not : (kind ≡ PD → ⊥) → true ≡ pd_rule s r
    unfolding pd_rule
    pd_not n = rw (ne_eqb (kind_of s r) PD (λ e. n (known ∙ e)))

    pub pd_so : (domain before : ℕ) → kind ≡ PD → domain ≡ s.objects r domain_word → before ≡ pds_below s r →
        (eqb domain (before + 1) && ltb domain domains) ≡ pd_rule s r
    unfolding pd_rule
    pd_so domain before e d b = rw (eq-eqb (kind_of s r) PD (sym known ∙ e), d, b)

    -- ECs
    pub ec_not : (kind ≡ EC → ⊥) → true ≡ ec_rule s r
    unfolding ec_rule
    ec_not n = rw (ne_eqb (kind_of s r) EC (λ e. n (known ∙ e)))

    pub ec_so : (at_home : Bool) (cpu base : ℕ) → kind ≡ EC → at_home ≡ has_pd s (s.objects r domain_word) → cpu ≡ s.objects r cpu_word →
        base ≡ s.objects r event_base_word → (at_home && ltb cpu cpus && ltb base (selectors object)) ≡ ec_rule s r
    unfolding ec_rule
    ec_so at_home cpu base e h a b = rw (eq-eqb (kind_of s r) EC (sym known ∙ e), h, a, b)

    -- SCs
    pub sc_not : (not (eqb kind SC) || ltb r cpus) ≡ true → true ≡ sc_rule s r
    unfolding sc_rule
    sc_not n =
        sym
        (not_asked (eqb (kind_of s r) SC && leb cpus r) (named_ec && in_priority && in_quantum)
        (λ (h : (eqb (kind_of s r) SC && leb cpus r) ≡ true).
        let is : eqb kind SC ≡ true = rw known (and_left (eqb (kind_of s r) SC) (leb cpus r) h) in
        let late : cpus ≤ r = leb-true cpus r (and_right (eqb (kind_of s r) SC) (leb cpus r) h) in
        not_both true refl (sym (rw (is, le-ltb r cpus late) at n))))

    pub sc_so : (ec : Bool) (number priority quantum : ℕ) → (not (eqb kind SC) || ltb r cpus) ≡ false → number ≡ s.objects r ec_word → ec ≡ is_ec s number →
        priority ≡ s.objects r priority_word → quantum ≡ s.objects r quantum_word →
        (ec && (leb 1 priority && leb priority greatest_priority) && (leb 1 quantum && leb quantum greatest_quantum)) ≡ sc_rule s r
    unfolding sc_rule
    sc_so ec number priority quantum f n h a b =
        let is : eqb (kind_of s r) SC ≡ true = rw (← known) (not-false (eqb kind SC) (or_none_left (not (eqb kind SC)) (ltb r cpus) f)) in
        let late : cpus ≤ r = ltb-false r cpus (or_none_right (not (eqb kind SC)) (ltb r cpus) f) in
        rw (is, le-leb cpus r late, h, n, a, b)

    -- PTs
    pub pt_not : (kind ≡ PT → ⊥) → true ≡ pt_rule s r
    unfolding pt_rule
    pt_not n = rw (ne_eqb (kind_of s r) PT (λ e. n (known ∙ e)))

    pub pt_so : (ec : Bool) (number : ℕ) → kind ≡ PT → number ≡ s.objects r ec_word → ec ≡ is_ec s number → ec ≡ pt_rule s r
    unfolding pt_rule
    pt_so ec number e n h = rw (eq-eqb (kind_of s r) PT (sym known ∙ e), ← n) h

    -- a number that is or is not an EC's
    pub ec_number : r < records → eqb kind EC ≡ is_ec s r
    unfolding is_ec
    ec_number l = rw (lt-ltb r records l, known)

  pub ec_past : records ≤ r → false ≡ is_ec s r
  unfolding is_ec
  ec_past l = rw (le-ltb r records l)

-- a free record keeps the rules where it is past the fixed ones and all 0
module _ (s : State) (r kind : ℕ) (known : kind ≡ kind_of s r) (none : kind ≡ free) where
  is_free_lem : kind_of s r ≡ free
  is_free_lem = sym known ∙ none

  -- it has the words of no used record
  no_words : (other first second third : ℕ) → (free ≡ other → ⊥) → has_words s r other first second third ≡ false
  no_words other first second third = other_words s r free other first second third is_free_lem

  fixed_broken : r ≤ root_sc → (fixed_record s r && interrupt_rule s r) ≡ false
  fixed_broken l =
      cases (ltb r cpus)
      (λ (t : ltb r cpus ≡ true).
      rw (sym (fixed_idle s r false (ltb-true r cpus t) (sym (no_words SC no_ec 0 0 (λ e. omega arith))))))
      (λ (f : ltb r cpus ≡ false).
      let from : cpus ≤ r = ltb-false r cpus f in
      cases (ltb r root_pd)
      (λ (t : ltb r root_pd ≡ true).
      let before = ltb-true r root_pd t in
      rw (sym (interrupt_so s r kind known), f, lt-leb root_pd r before, none, and-false (fixed_record s r)))
      (λ (g : ltb r root_pd ≡ false).
      let late : root_pd ≤ r = ltb-false r root_pd g in
      cases (eqb r root_pd)
      (λ (t : eqb r root_pd ≡ true). rw (sym (fixed_pd s r false (eqb-true r root_pd t) (sym (no_words PD root 0 0 (λ e. omega arith))))))
      (λ (a : eqb r root_pd ≡ false).
      cases (eqb r root_ec)
      (λ (t : eqb r root_ec ≡ true). rw (sym (fixed_ec s r false (eqb-true r root_ec t) (sym (no_words EC root 0 0 (λ e. omega arith))))))
      (λ (b : eqb r root_ec ≡ false).
      let is_sc : r ≡ root_sc = omega (arith, eqb-false r root_pd a, eqb-false r root_ec b) in
      rw (sym (fixed_sc s r false is_sc (sym (no_words SC root_ec root_priority root_quantum (λ e. omega arith)))))))))

  fixed_kept : root_sc < r → (fixed_record s r && interrupt_rule s r) ≡ true
  fixed_kept l =
      rw (
        sym (fixed_other s r (omega arith) (λ e. omega arith) (λ e. omega arith) (λ e. omega arith)),
        sym (interrupt_so s r kind known),
        le-ltb r cpus (omega arith),
        le-leb root_pd r (omega arith),
      )

  free_rest : (zeros : Bool) → zeros ≡ clear_from s r kind_word → (first : Bool) → (fixed_record s r && interrupt_rule s r) ≡ first → (first && zeros) ≡ record_keeps s r
  unfolding record_keeps unnamed_rule
  free_rest zeros h first e =
      rw (
        e,
        is_free_lem,
        sym (free_so s r kind known zeros none h),
        sym (ec_not s r kind known (λ f. omega arith)),
        sym (sc_not s r kind known (rw none)),
        sym (pt_not s r kind known (λ f. omega arith)),
      )
      (last first zeros)
    where
      last : (first zeros : Bool) → (first && zeros) ≡ (first && true && zeros && true && true && true)
      last true true = refl
      last true false = refl
      last false true = refl
      last false false = refl

  pub free_keeps : (zeros : Bool) → zeros ≡ clear_from s r kind_word → (ltb root_sc r && zeros) ≡ record_keeps s r
  free_keeps zeros h =
      cases (ltb root_sc r) (λ (t : ltb root_sc r ≡ true). rw t (free_rest zeros h true (fixed_kept (ltb-true root_sc r t))))
      (λ (f : ltb root_sc r ≡ false). rw f (free_rest zeros h false (fixed_broken (ltb-false root_sc r f))))

-- a semaphore's record keeps the rules where it is none of the fixed ones and has its count alone, and used records come first
module _ (s : State) (r : ℕ) (known : kind_of s r ≡ SM) where
  no_semaphore : (other first second third : ℕ) → (SM ≡ other → ⊥) → has_words s r other first second third ≡ false
  no_semaphore other first second third = other_words s r SM other first second third known

  fixed_not : cpus ≤ r → (ltb r root_pd || ltb root_sc r) ≡ fixed_record s r
  fixed_not l =
      cases (ltb r root_pd)
      (λ (t : ltb r root_pd ≡ true).
      let before = ltb-true r root_pd t in
      rw t (fixed_other s r l (λ e. omega arith) (λ e. omega arith) (λ e. omega arith)))
      (λ (f : ltb r root_pd ≡ false).
      let late = ltb-false r root_pd f in
      cases (ltb root_sc r)
      (λ (t : ltb root_sc r ≡ true).
      let past = ltb-true root_sc r t in
      rw (f, t) (fixed_other s r l (λ e. omega arith) (λ e. omega arith) (λ e. omega arith)))
      (λ (g : ltb root_sc r ≡ false).
      let upto = ltb-false root_sc r g in
      rw (f, g)
      (cases (eqb r root_pd)
      (λ (t : eqb r root_pd ≡ true). fixed_pd s r false (eqb-true r root_pd t) (sym (no_semaphore PD root 0 0 (λ e. omega arith))))
      (λ (a : eqb r root_pd ≡ false).
      cases (eqb r root_ec)
      (λ (t : eqb r root_ec ≡ true). fixed_ec s r false (eqb-true r root_ec t) (sym (no_semaphore EC root 0 0 (λ e. omega arith))))
      (λ (b : eqb r root_ec ≡ false).
      let is_sc : r ≡ root_sc = omega (arith, eqb-false r root_pd a, eqb-false r root_ec b) in
      fixed_sc s r false is_sc (sym (no_semaphore SC root_ec root_priority root_quantum (λ e. omega arith))))))))

  pub semaphore_so : (clear : Bool) → cpus ≤ r → used_first s r ≡ true → clear ≡ clear_from s r (count_word + 1) →
      ((ltb r root_pd || ltb root_sc r) && clear) ≡ record_keeps s r
  unfolding record_keeps
  semaphore_so clear l used h =
      let interrupts : interrupt_rule s r ≡ true = sym (interrupt_so s r SM (sym known)) ∙ last_or (ltb r cpus || leb root_pd r) in
      let unnamed : unnamed_rule s r ≡ clear = sym (unnamed_so s r SM count_word clear (sym known) refl h) in
      rw (
        fixed_not l,
        interrupts,
        unnamed,
        used,
        sym (ec_not s r SM (sym known) (λ f. omega arith)),
        sym (sc_not s r SM (sym known) refl),
        sym (pt_not s r SM (sym known) (λ f. omega arith)),
      )
      (all_true (fixed_record s r) clear)
    where
      last_or : (x : Bool) → (x || true) ≡ true
      last_or true = refl
      last_or false = refl

      all_true : (x y : Bool) → (x && y) ≡ (x && true && y && true && true && true && true)
      all_true true true = refl
      all_true true false = refl
      all_true false y = refl

-- the other rules together, where used records come first
pub others_so : (s : State) (r : ℕ) (fixed interrupts unnamed ec sc pt : Bool) → used_first s r ≡ true → fixed ≡ fixed_record s r → interrupts ≡ interrupt_rule s r →
    unnamed ≡ unnamed_rule s r → ec ≡ ec_rule s r → sc ≡ sc_rule s r → pt ≡ pt_rule s r → (fixed && interrupts && unnamed && ec && sc && pt) ≡ record_keeps s r
unfolding record_keeps
others_so s r fixed interrupts unnamed ec sc pt used a b d e f g =
    rw (a, b, d, e, f, g, used, and-true (fixed_record s r && interrupt_rule s r && unnamed_rule s r))

-- an idle SC keeps the rules where it is as at boot and used records come first
pub idle_keeps : (s : State) (r : ℕ) (same : Bool) → r < cpus → used_first s r ≡ true → same ≡ fixed_record s r → same ≡ record_keeps s r
unfolding record_keeps
idle_keeps s r same l used is_same =
    is_same ∙
    same_test (fixed_record s r) (record_keeps s r)
    (λ (t : fixed_record s r ≡ true).
    let clear = clear_from s r 4 in
    let kind = eqb (kind_of s r) SC in
    let all_four = kind && eqb (s.objects r 1) no_ec && eqb (s.objects r 2) 0 && eqb (s.objects r 3) 0 in
    let words : (all_four && clear) ≡ true =
    has_words_so s r SC no_ec 0 0 (kind_of s r) (s.objects r 1) (s.objects r 2) (s.objects r 3) clear refl refl refl refl refl ∙
    (fixed_idle s r (has_words s r SC no_ec 0 0) l refl ∙ t) in
    let four = each_of_four kind (eqb (s.objects r 1) no_ec) (eqb (s.objects r 2) 0) (eqb (s.objects r 3) 0) (and_left all_four clear words) in
    let is_sc : kind_of s r ≡ SC = eqb-true (kind_of s r) SC four.0 in
    let interrupts : interrupt_rule s r ≡ true = sym (interrupt_so s r SC (sym is_sc)) ∙ rw (lt-ltb r cpus l) in
    let unnamed : unnamed_rule s r ≡ true = sym (unnamed_so s r SC quantum_word clear (sym is_sc) refl refl) ∙ and_right all_four clear words in
    rw (
      t,
      interrupts,
      unnamed,
      used,
      sym (ec_not s r SC (sym is_sc) (λ f. omega arith)),
      sym (sc_not s r SC (sym is_sc) (lt-ltb r cpus l)),
      sym (pt_not s r SC (sym is_sc) (λ f. omega arith)),
    ))
    (λ (t : record_keeps s r ≡ true). (record_parts s r t).0.0)
