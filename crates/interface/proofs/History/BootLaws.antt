-- Boot: its state is sound, and its history shows it.
use Prim.Native.Nat.{ℕ, zero, suc, ◌+◌, ◌-◌, ◌≤◌, ◌<◌}
use mathlib.Core.Path.{◌≡◌, refl, sym, ap, ◌∙◌}
use mathlib.Core.Logic.{◌⊎◌, inl, inr, ⊎_elim}
use mathlib.Core.Bool.{Bool, true, false, ◌&&◌, ◌||◌}
use native.Mathlib.Omega.{arith}
use lib.Dec.{eqb, ltb, leb}
use lib.ListN.{length, get_or-eq_default}
use borrow.Author.Tests.{eq-eqb, ne_eqb, eqb-true, eqb-false, lt-ltb, le-ltb, ltb-true, ltb-false, leb-true, le-leb}
use Rattle.words.specs.Sizes.{memory, place_of, domain_of, space_of, selector_of, places, records, record_words, greatest_depth}
use Rattle.words.specs.Permissions.{delegated}
use Rattle.std.specs.Prelude.{if◌then◌else◌}
use Rattle.interface.specs.Basics.{put, all_below}
use Rattle.interface.specs.Places.{Cap, State, live, nothing}
use Rattle.interface.specs.Boot.{hypervisor, root, cpus, root_pd, root_ec, root_sc, information_page, utcb_page, boot_record, hypervisor_cap, root_memory, root_cap, boot_cap, boot}
use Rattle.interface.specs.Damage.{same_cap, fixed_place, null_place, shallow, sound_state}
use Rattle.interface.specs.Effects.{give, fills, handed, act}
use Rattle.interface.specs.History.{Filling, History, latest, standing, held, place_link, held_cap, told, added, note, boot_source, boot_fillings, boot_history}
use Rattle.interface.proofs.Basics.BoolLaws.{cases, and_left, and_right, either, each_of_four, asked_anyway}
use Rattle.interface.proofs.Basics.BelowLaws.{all_below_at, all_below_lem}
use Rattle.interface.proofs.Basics.PutLaws.{put_same, put_other}
use Rattle.interface.proofs.Sound.Soundness.{tested_sound, damage_rules}
use Rattle.interface.proofs.Sound.PlaceFacts.{same_cap_lem, null_test}
use Rattle.interface.proofs.Tables.TableLaws.{state_same}
use Rattle.interface.proofs.History.NoteLaws.{Follows, null_held, added_follows, give_filled}

-- to unfold this is to unfold what boot's tables compute by
unfoldable pub boot_tables_lem : Unit {0}
unfolding boot_record hypervisor_cap root_memory root_cap boot_cap
boot_tables_lem = tt

-- whether a place is one of the root's in memory, and domain 0's place of the same selector
abbrev in_root_memory : ℕ → Bool
in_root_memory p = eqb (domain_of p) root && eqb (space_of p) memory

abbrev lender : ℕ → ℕ
lender p = place_of hypervisor memory (selector_of p)

-- domain 0's places of the two pages that the root gets
abbrev pub utcb_place : ℕ
utcb_place = place_of hypervisor memory utcb_page

abbrev pub information_place : ℕ
information_place = place_of hypervisor memory information_page

-- whether a place shows what delegation makes of one of these
abbrev lent_from : ℕ → ℕ → Bool
lent_from source p =
    (eqb source utcb_place || eqb source information_place) && live (boot_cap source) && ltb (boot_cap source).depth greatest_depth &&
    same_cap (boot_cap p) (handed (boot_cap source) source (boot_cap p).permissions)

-- what boot fills in the root's memory is lent so, what it fills elsewhere has no parent and depth 0, and the rest is null
abbrev shaped : ℕ → Bool
shaped p =
    if live (boot_cap p) then (if in_root_memory p then lent_from (lender p) p else eqb (boot_cap p).parent 0 && eqb (boot_cap p).depth 0)
    else same_cap (boot_cap p) nothing

boot_shape : all_below places shaped ≡ true
unfolding space_of all_below boot_tables_lem
boot_shape = refl

-- the records of boot are no longer than records are
boot_short : all_below records (λ r. leb (length (boot_record r)) record_words) ≡ true
unfolding all_below boot_record
boot_short = refl

-- a place that is lent from another
record Lent (source p : ℕ) : Type 0 where
  one_of_two : (source ≡ utcb_place) ⊎ (source ≡ information_place)
  source_live : live (boot_cap source) ≡ true
  source_shallow : (boot_cap source).depth < greatest_depth
  handed_on : boot_cap p ≡ handed (boot_cap source) source (boot_cap p).permissions

module _ (p : ℕ) (l : p < places) where
  shape : shaped p ≡ true
  shape = all_below_at places shaped boot_shape p l

  boot_null : live (boot_cap p) ≡ false → boot_cap p ≡ nothing
  boot_null f = same_cap_lem (boot_cap p) nothing (rw f at shape)

  module _ (alive : live (boot_cap p) ≡ true) where
    boot_lent : in_root_memory p ≡ true → Lent (lender p) p
    boot_lent m =
        let source = lender p in
        let parts = each_of_four (eqb source utcb_place || eqb source information_place) (live (boot_cap source)) (ltb (boot_cap source).depth greatest_depth)
        (same_cap (boot_cap p) (handed (boot_cap source) source (boot_cap p).permissions)) (rw (alive, m) at shape) in
        record {
          one_of_two =
              ⊎_elim (λ (e : eqb source utcb_place ≡ true). inl (eqb-true source utcb_place e)) (λ (e : eqb source information_place ≡ true). inr (eqb-true source information_place e))
              (either (eqb source utcb_place) (eqb source information_place) parts.0);
          source_live = parts.1;
          source_shallow = ltb-true (boot_cap source).depth greatest_depth parts.2;
          handed_on = same_cap_lem (boot_cap p) (handed (boot_cap source) source (boot_cap p).permissions) parts.3;
        }

    boot_parentless : in_root_memory p ≡ false → ((boot_cap p).parent ≡ 0) × ((boot_cap p).depth ≡ 0)
    boot_parentless f =
        let parts = rw (alive, f) at shape in (
          eqb-true (boot_cap p).parent 0 (and_left (eqb (boot_cap p).parent 0) (eqb (boot_cap p).depth 0) parts),
          eqb-true (boot_cap p).depth 0 (and_right (eqb (boot_cap p).parent 0) (eqb (boot_cap p).depth 0) parts),
        )

    boot_depth : (boot_cap p).depth ≤ greatest_depth
    boot_depth =
        cases (in_root_memory p)
        (λ (m : in_root_memory p ≡ true).
        let lent = boot_lent m in
        let one_more : (boot_cap p).depth ≡ (boot_cap (lender p)).depth + 1 = ap (λ (cap : Cap). cap.depth) lent.handed_on in
        omega (arith, lent.source_shallow))
        (λ (f : in_root_memory p ≡ false). omega (arith, (boot_parentless f).1))

    -- a place has no parent, or one of the two pages
    pub boot_parent : ((boot_cap p).parent ≡ 0) ⊎ (((boot_cap p).parent - 1 ≡ utcb_place) ⊎ ((boot_cap p).parent - 1 ≡ information_place))
    boot_parent =
        cases (in_root_memory p)
        (λ (m : in_root_memory p ≡ true).
        let lent = boot_lent m in
        let linked : (boot_cap p).parent ≡ lender p + 1 = ap (λ (cap : Cap). cap.parent) lent.handed_on in
        let back : (boot_cap p).parent - 1 ≡ lender p = omega arith in
        inr (rw back lent.one_of_two))
        (λ (f : in_root_memory p ≡ false). inl (boot_parentless f).0)

-- so its places keep the rules, of which only what live places name is left to compute
same_self : (a : Cap) → same_cap a a ≡ true
same_self a =
    rw (
      eq-eqb a.resource a.resource refl,
      eq-eqb a.permissions a.permissions refl,
      eq-eqb a.parent a.parent refl,
      eq-eqb a.depth a.depth refl,
    )

boot_fixed : all_below places (fixed_place boot) ≡ true
unfolding fixed_place
boot_fixed =
    all_below_lem places (fixed_place boot)
    (λ p l. asked_anyway (eqb (domain_of p) hypervisor) (same_cap (boot_cap p) (boot_cap p)) (same_self (boot_cap p)))

boot_nulls : all_below places (null_place boot) ≡ true
boot_nulls = all_below_lem places (null_place boot) (λ p l. null_test boot p (boot_null p l))

boot_shallow : all_below places (shallow boot) ≡ true
unfolding shallow
boot_shallow =
    all_below_lem places (shallow boot)
    (λ p l.
    cases (live (boot_cap p)) (λ (t : live (boot_cap p) ≡ true). le-leb (boot_cap p).depth greatest_depth (boot_depth p l t))
    (λ (f : live (boot_cap p) ≡ false). rw (boot_null p l f)))

pub boot_sound : sound_state boot ≡ true
unfolding damage_rules boot_tables_lem
boot_sound =
    tested_sound boot (refl, (refl, (refl, (refl, (refl, (refl, (refl, (refl, tt)))))))) (boot_fixed, (boot_nulls, (refl, (boot_shallow, tt))))

-- boot fills nothing past the places, and has no record past the records
pub boot_past : (p : ℕ) → places ≤ p → boot_cap p ≡ nothing
unfolding boot_cap
boot_past p g = rw (ne_eqb (domain_of p) hypervisor (λ e. omega arith), ne_eqb (domain_of p) root (λ e. omega arith))

pub boot_records : (r i : ℕ) → records ≤ r → boot.objects r i ≡ 0
unfolding boot_record
boot_records r i g =
    rw (
      le-ltb r cpus (omega arith),
      le-ltb r root_pd (omega arith),
      ne_eqb r root_pd (λ e. omega arith),
      ne_eqb r root_ec (λ e. omega arith),
      ne_eqb r root_sc (λ e. omega arith),
    )

pub boot_words_lem : (r i : ℕ) → record_words ≤ i → boot.objects r i ≡ 0
boot_words_lem r i g =
    cases (ltb r records)
    (λ (t : ltb r records ≡ true).
    let short : length (boot_record r) ≤ record_words =
    leb-true (length (boot_record r)) record_words
    (all_below_at records (λ r. leb (length (boot_record r)) record_words) boot_short r (ltb-true r records t))
    in
    get_or-eq_default (boot_record r) 0 (omega arith))
    (λ (f : ltb r records ≡ false). boot_records r i (ltb-false r records f))

parentless_cap : (cap : Cap) → cap.parent ≡ 0 → cap.depth ≡ 0 →
    ◌≡◌ {A = Cap} (record { resource = cap.resource; permissions = cap.permissions; parent = 0; depth = 0 }) cap
parentless_cap cap p d = λ i. record { resource = cap.resource; permissions = cap.permissions; parent = sym p i; depth = sym d i }

-- what the history of boot's places below a number shows
abbrev boot_below : ℕ → State
boot_below n = record { caps = λ p. if ltb p n then boot_cap p else nothing; objects = boot.objects }

-- one place more, filled or null
below_next : (n p : ℕ) → (p ≡ n → ⊥) → (if ltb p n then boot_cap p else nothing) ≡ (if ltb p (suc n) then boot_cap p else nothing)
below_next n p d =
    cases (ltb p n)
    (λ (t : ltb p n ≡ true). let l : p < n = ltb-true p n t in rw (t, lt-ltb p (suc n) (omega arith)))
    (λ (f : ltb p n ≡ false). let g : n ≤ p = ltb-false p n f in rw (f, le-ltb p (suc n) (omega arith)))

empty_history : Follows (boot_fillings 0) (boot_below 0)
unfolding boot_fillings held latest standing held_cap
empty_history = (
  state_same (told (boot_fillings 0)) (boot_below 0) (λ p. rw (le-ltb p 0 (omega arith))) (λ r i. refl),
  record {
    older = λ k l. absurd (omega arith);
    latest_live = λ k l p. absurd (omega arith);
    source_within = λ k j l e. absurd (omega arith);
    place_small = λ k l. absurd (omega arith);
    records_end = boot_records;
    words_end = boot_words_lem;
  },
)

module _ (n : ℕ) (l : n < places) (h : History) (follows : Follows h (boot_below n)) where
  shows : (p : ℕ) → (told h).caps p ≡ (if ltb p n then boot_cap p else nothing)
  shows p = ap (λ (s : State). s.caps p) follows.0

  null_yet : live ((told h).caps n) ≡ false
  null_yet = rw (shows n, le-ltb n n (omega arith))

  objects_kept : h.objects ≡ boot.objects
  objects_kept = ap (λ (s : State). s.objects) follows.0

  -- the place's filling, from a source
  abbrev filling : ℕ → Filling
  filling source = record { place = n; resource = (boot_cap n).resource; permissions = (boot_cap n).permissions; source = source }

  -- a history that shows this place's capability besides those before it shows boot's places one further
  grown : (later : History) → Follows later (record { caps = put (told h).caps n (boot_cap n); objects = h.objects }) → Follows later (boot_below (suc n))
  grown later one = (
    one.0 ∙
        state_same (record { caps = put (told h).caps n (boot_cap n); objects = h.objects }) (boot_below (suc n))
        (λ p.
        cases (eqb p n)
        (λ (e : eqb p n ≡ true). rw (eqb-true p n e, put_same (told h).caps n (boot_cap n), lt-ltb n (suc n) (omega arith)))
        (λ (d : eqb p n ≡ false).
        put_other (told h).caps n (boot_cap n) p (eqb-false p n d) ∙ shows p ∙ below_next n p (eqb-false p n d)))
        (λ r i. ap (λ (o : ℕ → ℕ → ℕ). o r i) objects_kept),
    one.1,
  )

  module _ (alive : live (boot_cap n) ≡ true) where
    fill_parentless : in_root_memory n ≡ false → Follows (added h (filling (boot_source h n))) (boot_below (suc n))
    unfolding place_link boot_source
    fill_parentless f =
        let none = boot_parentless n l alive f in
        rw f
        (grown (added h (filling 0))
        (added_follows h follows.1 (filling 0) (boot_cap n)
        (record {
          null = null_held h follows.1 n null_yet;
          has_permissions = ltb-true 0 (boot_cap n).permissions alive;
          source_known = omega arith;
          within_source = λ j e. absurd (omega arith);
          place_exists = l;
        })
        (parentless_cap (boot_cap n) none.0 none.1)))

    module _ (in_root : in_root_memory n ≡ true) where
      abbrev source : ℕ
      source = lender n

      abbrev mask : ℕ
      mask = (boot_cap n).permissions

      lent : Lent source n
      lent = boot_lent n l alive in_root

      -- the source was filled before
      source_shows : (told h).caps source ≡ boot_cap source
      source_shows =
          let low : source ≤ information_place =
          ⊎_elim (λ (e : source ≡ utcb_place). omega arith) (λ (e : source ≡ information_place). omega arith) lent.one_of_two
          in
          let there : domain_of n ≡ root = eqb-true (domain_of n) root (and_left (eqb (domain_of n) root) (eqb (space_of n) memory) in_root) in
          rw (shows source, lt-ltb source n (omega arith))

      left : delegated (boot_cap source).permissions mask ≡ mask
      left = sym (ap (λ (cap : Cap). cap.permissions) lent.handed_on)

      takes : fills (told h).caps n source mask ≡ true
      unfolding fills
      takes =
          rw (
            source_shows,
            lent.source_live,
            lt-ltb (boot_cap source).depth greatest_depth lent.source_shallow,
            null_yet,
            left,
            ne_eqb mask 0 (omega (arith, ltb-true 0 mask alive)),
          )

      -- so the place is filled as a delegation from the source fills it
      noted : note (give n source mask) h ≡ added h (filling (boot_source h n))
      unfolding note boot_source
      noted =
          let same_resource : (boot_cap source).resource ≡ (boot_cap n).resource = sym (ap (λ (cap : Cap). cap.resource) lent.handed_on) in
          rw (takes, in_root, source_shows, left, same_resource)

      acted : act (give n source mask) (told h) ≡ record { caps = put (told h).caps n (boot_cap n); objects = h.objects }
      unfolding act
      acted =
          rw (takes, source_shows)
          (λ i. record { caps = put (told h).caps n (sym lent.handed_on i); objects = h.objects })

      fill_lent : Follows (added h (filling (boot_source h n))) (boot_below (suc n))
      fill_lent =
          let one = give_filled h follows.1 n source mask l takes in
          rw noted at (grown (note (give n source mask) h) (rw acted at one))

    fill_one : Follows (added h (filling (boot_source h n))) (boot_below (suc n))
    fill_one =
        cases (in_root_memory n) (λ (m : in_root_memory n ≡ true). fill_lent m) (λ (f : in_root_memory n ≡ false). fill_parentless f)

  leave_one : live (boot_cap n) ≡ false → Follows h (boot_below (suc n))
  leave_one f = (
    follows.0 ∙
        state_same (boot_below n) (boot_below (suc n))
        (λ p.
        cases (eqb p n)
        (λ (e : eqb p n ≡ true).
        rw (eqb-true p n e, le-ltb n n (omega arith), lt-ltb n (suc n) (omega arith)) (sym (boot_null n l f)))
        (λ (d : eqb p n ≡ false). below_next n p (eqb-false p n d)))
        (λ r i. refl),
    follows.1,
  )

boot_next : (n : ℕ) → n < places → Follows (boot_fillings n) (boot_below n) → Follows (boot_fillings (suc n)) (boot_below (suc n))
unfolding boot_fillings
boot_next n l before =
    cases (live (boot_cap n))
    (λ (t : live (boot_cap n) ≡ true). rw t (fill_one n l (boot_fillings n) before t))
    (λ (f : live (boot_cap n) ≡ false). rw f (leave_one n l (boot_fillings n) before f))

boot_upto : (n : ℕ) → n ≤ places → Follows (boot_fillings n) (boot_below n)
boot_upto zero l = empty_history
boot_upto (suc n) l = boot_next n (omega arith) (boot_upto n (omega arith))

-- boot's history shows boot's state, and is valid
pub boot_follows : Follows boot_history boot
boot_follows =
    let all_places = boot_upto places (omega arith) in (
      all_places.0 ∙
          state_same (boot_below places) boot
          (λ p.
          cases (ltb p places) (λ (t : ltb p places ≡ true). rw t)
          (λ (f : ltb p places ≡ false). rw f (sym (boot_past p (ltb-false p places f)))))
          (λ r i. refl),
      all_places.1,
    )
