-- Translation is exact: the walk up the parents finds the nearest ancestor, and the tests of a translation are those of its range.
use Prim.Native.Nat.{ℕ, zero, suc, ◌+◌, ◌-◌, ◌/◌, ◌%◌, ◌^◌, ◌≤◌, ◌<◌, min}
use mathlib.Core.Path.{◌≡◌, refl, sym, ◌∙◌, subst}
use mathlib.Core.Logic.{◌↔◌}
use mathlib.Core.Bool.{Bool, true, false, ◌&&◌}
use native.Mathlib.Omega.{arith}
use native.Mathlib.Numerals.{add-one}
use lib.Dec.{eqb, leb}
use lib.Bits.{bit_and, and_step, and_shr}
use lib.Pow.{pow_pos}
use borrow.Author.Tests.{eqb-true, eqb-false, eq-eqb, ne_eqb, leb-true, leb-false}
use Rattle.words.specs.Sizes.{domains, place_of, domain_of, selector_of, places}
use Rattle.words.specs.Permissions.{permits, delegated}
use Rattle.words.specs.Ranges.{aligned}
use Rattle.words.proofs.PlaceLaws.{is_place}
use Rattle.descriptor.specs.Descriptors.{Proper}
use Rattle.descriptor.specs.declared.Range.{Range}
use Rattle.interface.specs.Basics.{all_below}
use Rattle.interface.specs.Places.{Cap, State, live}
use Rattle.interface.specs.Message.{first_in, nearest, common, sender_place, ancestor_at, translated_base, translates, translate_item}
use Rattle.interface.specs.Translations.{IsParent, NearestIn, parent_itself, parent_passed, place_at, ShownFor, Breaks, no_ancestor, elsewhere, unaligned, before_window, past_window, TranslatesExactly}
use Rattle.interface.proofs.Basics.BoolLaws.{cases, not_both, and_left, and_right}
use Rattle.interface.proofs.Basics.BelowLaws.{below_suc, all_below_at, all_below_fails}
use Rattle.interface.proofs.Sound.Soundness.{Sound, sound_facts}
use Rattle.interface.proofs.Sound.PlaceFacts.{null_cap, ChildOf, Lineage, no_parent, child, live_facts}
use Rattle.interface.proofs.Sound.CutSound.{ancestors_child, ancestors_none}

-- the nearest ancestor of a child is its parent if that lies in the domain, and otherwise the parent's nearest one; without a parent there is none
module _ (caps : ℕ → Cap) (domain place : ℕ) where
  nearest_none : (caps place).parent ≡ 0 → nearest caps domain place ≡ 0
  unfolding nearest first_in
  nearest_none e = rw (ancestors_none caps place e)

  module _ (parent : ℕ) (linked : (caps place).parent ≡ suc parent) (deeper : (caps parent).depth + 1 ≡ (caps place).depth) where
    nearest_parent : domain_of parent ≡ domain → nearest caps domain place ≡ parent + 1
    unfolding nearest first_in
    nearest_parent e = rw (ancestors_child caps place parent linked deeper, eq-eqb (domain_of parent) domain e)

    nearest_passed : (domain_of parent ≡ domain → ⊥) → nearest caps domain place ≡ nearest caps domain parent
    unfolding nearest first_in
    nearest_passed e = rw (ancestors_child caps place parent linked deeper, ne_eqb (domain_of parent) domain e)

-- the walk finds the nearest ancestor where there is one
is_nearest : (caps : ℕ → Cap) (domain ancestor place : ℕ) → NearestIn caps domain ancestor place → nearest caps domain place ≡ ancestor + 1
is_nearest caps domain ancestor place (parent_itself is e) =
    nearest_parent caps domain place ancestor (is.linked ∙ add-one ancestor) (sym is.depth_falls) e
is_nearest caps domain ancestor place (parent_passed {parent = parent} is e rest) =
    nearest_passed caps domain place parent (is.linked ∙ add-one parent) (sym is.depth_falls) e ∙ is_nearest caps domain ancestor parent rest

module _ (s : State) (k : Sound s) (domain : ℕ) where
  child_parent : (place parent : ℕ) → live (s.caps place) ≡ true → ChildOf s place parent → IsParent s.caps place parent
  child_parent place parent l c =
      record { place_live = l; parent_live = c.alive; linked = c.linked ∙ sym (add-one parent); depth_falls = sym c.deeper }

  -- and what the walk finds on a sound state is the nearest ancestor: by induction on the depth, which falls
  found_lineage : (place ancestor : ℕ) → live (s.caps place) ≡ true → nearest s.caps domain place ≡ ancestor + 1 →
      ((parent : ℕ) → ChildOf s place parent → nearest s.caps domain parent ≡ ancestor + 1 → NearestIn s.caps domain ancestor parent) →
      Lineage s place → NearestIn s.caps domain ancestor place
  found_lineage place ancestor l found further (no_parent e h) = absurd (omega (arith, nearest_none s.caps domain place e))
  found_lineage place ancestor l found further (child parent c) =
      cases (eqb (domain_of parent) domain)
      (λ (t : eqb (domain_of parent) domain ≡ true).
      let lies : domain_of parent ≡ domain = eqb-true (domain_of parent) domain t in
      let same : parent ≡ ancestor = omega (arith, nearest_parent s.caps domain place parent c.linked c.deeper lies) in
      rw (← same) (parent_itself (child_parent place parent l c) lies))
      (λ (f : eqb (domain_of parent) domain ≡ false).
      let passed = eqb-false (domain_of parent) domain f in
      parent_passed (child_parent place parent l c) passed
      (further parent c (sym (nearest_passed s.caps domain place parent c.linked c.deeper passed) ∙ found)))

  found_through : (place ancestor : ℕ) → place < places → nearest s.caps domain place ≡ ancestor + 1 →
      ((parent : ℕ) → ChildOf s place parent → nearest s.caps domain parent ≡ ancestor + 1 → NearestIn s.caps domain ancestor parent) →
      NearestIn s.caps domain ancestor place
  found_through place ancestor small found further =
      cases (live (s.caps place))
      (λ (l : live (s.caps place) ≡ true). found_lineage place ancestor l found further (live_facts s place (k.lives place small) l).lineage)
      (λ (d : live (s.caps place) ≡ false).
      let none : (s.caps place).parent ≡ 0 = rw (null_cap s place (k.nulls place small) d) in
      absurd (omega (arith, nearest_none s.caps domain place none)))

  found_within : (depth place ancestor : ℕ) → place < places → (s.caps place).depth ≤ depth → nearest s.caps domain place ≡ ancestor + 1 →
      NearestIn s.caps domain ancestor place
  found_within zero place ancestor small shallow found =
      found_through place ancestor small found (λ parent c e. absurd (omega (arith, c.deeper)))
  found_within (suc depth) place ancestor small shallow found =
      found_through place ancestor small found (λ parent c e. found_within depth parent ancestor c.is_place (omega (arith, c.deeper)) e)

  found_nearest : (place ancestor : ℕ) → place < places → nearest s.caps domain place ≡ ancestor + 1 → NearestIn s.caps domain ancestor place
  found_nearest place ancestor small found = found_within (s.caps place).depth place ancestor small (omega arith) found

-- a permission is among those that delegation gives exactly where it is among the source's and the mask's
permits_both : (bit a b : ℕ) → (permits bit (delegated a b) ≡ true) ↔ ((permits bit a ≡ true) × (permits bit b ≡ true))
permits_both bit a b =
    let one : bit + 1 - bit ≡ 1 = omega arith in
    let x = a / 2 ^ bit in
    let y = b / 2 ^ bit in
    let low : bit_and a b / 2 ^ bit % 2 ≡ min (x % 2) (y % 2) = rw (and_shr a b bit) (omega (arith, and_step x y)) in
    rw (one, low) (
      (λ h.
          let least : min (x % 2) (y % 2) ≡ 1 = eqb-true (min (x % 2) (y % 2)) 1 h in
          (eq-eqb (x % 2) 1 (omega arith), eq-eqb (y % 2) 1 (omega arith))),
      (λ h.
          let first : x % 2 ≡ 1 = eqb-true (x % 2) 1 h.0 in
          let second : y % 2 ≡ 1 = eqb-true (y % 2) 1 h.1 in
          eq-eqb (min (x % 2) (y % 2)) 1 (omega arith)),
    )

-- and among the common permissions exactly where it is in the mask and in each capability's
permits_common : (bit mask n : ℕ) (caps : ℕ → Cap) →
    (permits bit (common mask n caps) ≡ true) ↔ ((permits bit mask ≡ true) × ((i : ℕ) → i < n → permits bit (caps i).permissions ≡ true))
unfolding common
permits_common bit mask zero caps = (λ h. (h, λ i l. absurd (omega arith)), λ h. h.0)
permits_common bit mask (suc n) caps =
    let here = permits_both bit (common mask n caps) (caps n).permissions in
    let before = permits_common bit mask n caps in (
      (λ h.
          let (earlier, last) = here.0 h in
          let (in_mask, in_each) = before.0 earlier in
          (in_mask, λ i l. below_suc i n l (in_each i) (λ (e : i ≡ n). rw e last))),
      (λ h. here.1 (before.1 (h.0, λ i l. h.1 i (omega arith)), h.1 n (omega arith))),
    )

module _ (s : State) (k : Sound s) (sender receiver : ℕ) (item window : Range) (home : sender < domains) (proper : Proper item) where
  -- the parts of the test of a translation
  abbrev base : ℕ
  base = translated_base s.caps sender receiver item

  abbrev in_place : ℕ → Bool
  in_place i = eqb (ancestor_at s.caps sender receiver item i) (place_of receiver item.space (base + i) + 1)

  abbrev starts : Bool
  starts = leb window.base base

  abbrev ends : Bool
  ends = leb (base + 2 ^ item.order) (window.base + 2 ^ window.order)

  -- the sender's places are places
  sent_place : (i : ℕ) → i < 2 ^ item.order → place_at sender item i < places
  sent_place i l = is_place sender item.space (item.base + i) home proper.space_small (omega (arith, proper.ends_inside))

  some_offset : 0 < 2 ^ item.order
  some_offset = pow_pos item.order

  -- what is shown
  abbrev shown_range : Range
  shown_range =
      record { space = item.space; base = base; order = item.order; mask = common item.mask (2 ^ item.order) (λ i. s.caps (sender_place sender item i)) }

  shown_so : translates s.caps sender receiver item window ≡ true → ShownFor s sender receiver item window shown_range
  unfolding translates
  shown_so t =
      let All_there = all_below (2 ^ item.order) in_place in
      let first_two = and_left (All_there && aligned item.order base) (starts && ends) t in
      let last_two = and_right (All_there && aligned item.order base) (starts && ends) t in
      record {
        same_space = refl;
        same_order = refl;
        base_aligned = eqb-true (base % 2 ^ item.order) 0 (and_right All_there (aligned item.order base) first_two);
        from_window = leb-true window.base base (and_left starts ends last_two);
        to_window = leb-true (base + 2 ^ item.order) (window.base + 2 ^ window.order) (and_right starts ends last_two);
        each_nearest =
            λ i l.
            found_nearest s k receiver (place_at sender item i) (place_at receiver shown_range i) (sent_place i l)
            (eqb-true (ancestor_at s.caps sender receiver item i) (place_of receiver item.space (base + i) + 1)
            (all_below_at (2 ^ item.order) in_place (and_left All_there (aligned item.order base) first_two) i l));
        mask_common = λ bit. permits_common bit item.mask (2 ^ item.order) (λ i. s.caps (sender_place sender item i));
      }

  -- where the first place's nearest ancestor is, the translation's base is its selector
  base_first : (first : ℕ) → NearestIn s.caps receiver first (place_at sender item 0) → base ≡ selector_of first
  base_first first n =
      let back : ancestor_at s.caps sender receiver item 0 - 1 ≡ first =
      omega (arith, is_nearest s.caps receiver first (place_at sender item 0) n) in
      rw back

  -- nothing breaks a translation that holds
  not_broken : translates s.caps sender receiver item window ≡ true → Breaks s sender receiver item window → ⊥
  not_broken t (no_ancestor i l none) = none (place_at receiver shown_range i) ((shown_so t).each_nearest i l)
  not_broken t (elsewhere first ancestor i l n m d) =
      let there : place_at receiver shown_range i + 1 ≡ ancestor + 1 =
      sym (is_nearest s.caps receiver (place_at receiver shown_range i) (place_at sender item i) ((shown_so t).each_nearest i l)) ∙
      is_nearest s.caps receiver ancestor (place_at sender item i) m in
      let same : ancestor ≡ place_of receiver item.space (base + i) = omega arith in
      d (rw (base_first first n) at same)
  not_broken t (unaligned first n d) = d (rw (base_first first n) at (shown_so t).base_aligned)
  not_broken t (before_window first n d) = omega (arith, (shown_so t).from_window, base_first first n)
  not_broken t (past_window first n d) = omega (arith, (shown_so t).to_window, base_first first n)

  -- a sender's place has a nearest ancestor, or none
  either_found : {C : Type 0} (i : ℕ) → i < 2 ^ item.order → (link : ℕ) → ancestor_at s.caps sender receiver item i ≡ link →
      ((ancestor : ℕ) → link ≡ ancestor + 1 → NearestIn s.caps receiver ancestor (place_at sender item i) → C) →
      (((ancestor : ℕ) → NearestIn s.caps receiver ancestor (place_at sender item i) → ⊥) → C) → C
  either_found i l zero e found none =
      none (λ ancestor n. omega (arith, is_nearest s.caps receiver ancestor (place_at sender item i) n))
  either_found i l (suc ancestor) e found none =
      found ancestor (sym (add-one ancestor))
      (found_nearest s k receiver (place_at sender item i) ancestor (sent_place i l) (e ∙ sym (add-one ancestor)))

  -- and what does not hold is broken: where the first place has its nearest ancestor, the parts of the test in turn
  module _ (first : ℕ) (n : NearestIn s.caps receiver first (place_at sender item 0)) where
    broken_place : all_below (2 ^ item.order) in_place ≡ false → Breaks s sender receiver item window
    broken_place h =
        let (i, l, misses) = all_below_fails (2 ^ item.order) in_place h in
        either_found i l (ancestor_at s.caps sender receiver item i) refl
        (λ (ancestor : ℕ) (at : ancestor_at s.caps sender receiver item i ≡ ancestor + 1) (m : NearestIn s.caps receiver ancestor (place_at sender item i)).
        elsewhere first ancestor i l n m
        (λ same.
        let there : ancestor ≡ place_of receiver item.space (base + i) = rw (base_first first n) same in
        eqb-false (ancestor_at s.caps sender receiver item i) (place_of receiver item.space (base + i) + 1) misses (omega arith)))
        (λ (none : (ancestor : ℕ) → NearestIn s.caps receiver ancestor (place_at sender item i) → ⊥). no_ancestor i l none)

    broken_alignment : aligned item.order base ≡ false → Breaks s sender receiver item window
    broken_alignment f = unaligned first n (λ e. eqb-false (base % 2 ^ item.order) 0 f (rw (base_first first n) e))

    broken_start : starts ≡ false → Breaks s sender receiver item window
    broken_start f = before_window first n (omega (arith, leb-false window.base base f, base_first first n))

    broken_end : ends ≡ false → Breaks s sender receiver item window
    broken_end f =
        past_window first n (omega (arith, leb-false (base + 2 ^ item.order) (window.base + 2 ^ window.order) f, base_first first n))

    broken_from : translates s.caps sender receiver item window ≡ false → Breaks s sender receiver item window
    unfolding translates
    broken_from f =
        let All_there = all_below (2 ^ item.order) in_place in
        let fits = aligned item.order base in
        cases All_there
        (λ (t : All_there ≡ true).
        cases fits
        (λ (u : fits ≡ true).
        cases starts
        (λ (v : starts ≡ true).
        cases ends (λ (w : ends ≡ true). not_both (All_there && fits && (starts && ends)) (rw (t, u, v, w)) f) broken_end)
        broken_start)
        broken_alignment)
        broken_place

  broken : translates s.caps sender receiver item window ≡ false → Breaks s sender receiver item window
  broken f =
      either_found 0 some_offset (ancestor_at s.caps sender receiver item 0) refl
      (λ (first : ℕ) (at : ancestor_at s.caps sender receiver item 0 ≡ first + 1) (n : NearestIn s.caps receiver first (place_at sender item 0)).
      broken_from first n f)
      (λ (none : (ancestor : ℕ) → NearestIn s.caps receiver ancestor (place_at sender item 0) → ⊥). no_ancestor 0 some_offset none)

pub translates_exactly : TranslatesExactly
unfolding translate_item
translates_exactly s sender receiver item window sound home proper =
    let k = sound_facts s sound in
    let holds = translates s.caps sender receiver item window in
    cases holds
    (λ (t : holds ≡ true).
    rw t
    (record {
      no_steps = refl;
      shows_so =
          λ range e.
          let same : shown_range s k sender receiver item window home proper ≡ range = cc in
          subst (ShownFor s sender receiver item window) same (shown_so s k sender receiver item window home proper t);
      null_so = (
        (λ e. let z : ◌≡◌ {A = ℕ} 0 1 = cc in absurd (omega arith)),
        (λ breaks. absurd (not_broken s k sender receiver item window home proper t breaks)),
      );
      one_reason = λ reason e. let z : ◌≡◌ {A = ℕ} 0 1 = cc in absurd (omega arith);
    }))
    (λ (f : holds ≡ false).
    rw f
    (record {
      no_steps = refl;
      shows_so = λ range e. let z : ◌≡◌ {A = ℕ} 0 1 = cc in absurd (omega arith);
      null_so = ((λ e. broken s k sender receiver item window home proper f), (λ breaks. refl));
      one_reason = λ reason e. cc;
    }))
