-- What boot lends to the root, by computation, where it came from in the history, and what the census and REVOKE make of it.
use Prim.Native.Nat.{ℕ, zero, suc, ◌+◌, ◌≤◌, ◌<◌}
use mathlib.Core.Path.{◌≡◌, refl, sym, ap, ◌∙◌}
use mathlib.Core.Bool.{Bool, true, false, not, ◌&&◌, ◌||◌, and-false, or-false}
use mathlib.Core.List.{List, [], ◌∷◌}
use native.Mathlib.Nat.{add-zero}
use native.Mathlib.Numerals.{add-one}
use native.Mathlib.Omega.{arith}
use lib.Dec.{eqb, ltb}
use lib.ListN.{length, drop}
use borrow.Author.Tests.{eq-eqb, ne_eqb, eqb-true, eqb-false, ltb-true, ltb-false}
use Rattle.words.specs.Sizes.{memory, io, place_of, domain_of, space_of, places}
use Rattle.descriptor.specs.declared.Reading.TheVariants.{Good}
use Rattle.std.specs.Prelude.{if◌then◌else◌, Ok}
use Rattle.interface.specs.Basics.{put, all_below, count_below, any, gather}
use Rattle.interface.specs.Places.{Cap, State, live, nothing, domain_word, tables_of}
use Rattle.interface.specs.Boot.{hypervisor, root, root_ec, boot_record, boot_cap, boot}
use Rattle.interface.specs.Damage.{same_cap, is_ec}
use Rattle.interface.specs.RangeDescriptors.{reading}
use Rattle.interface.specs.Effects.{cut, chain, ancestors, among, below, stripped, cut_caps, act, run}
use Rattle.interface.specs.Verdicts.{Call, REVOKE, grant, reply_of}
use Rattle.interface.specs.Rules.{rules, after, hypercall_reply, hypercall_tables}
use Rattle.interface.specs.Census.{descendants, census_of}
use Rattle.interface.specs.History.{History, held, place_link, held_cap, told, came_from, heir, boot_fillings, boot_history}
use Rattle.interface.specs.Demand.{whole_mask, one_place}
use Rattle.interface.specs.BootLends.{BootLends}
use Rattle.interface.proofs.Basics.BoolLaws.{cases, not_both}
use Rattle.interface.proofs.Basics.BelowLaws.{all_below_at}
use Rattle.interface.proofs.Basics.PutLaws.{put_same, put_other}
use Rattle.interface.proofs.Sound.PlaceFacts.{same_cap_lem}
use Rattle.interface.proofs.Tables.TableLaws.{state_same}
use Rattle.interface.proofs.Tables.ShownLaws.{judged_shown, tables_shown, census_shown, counted_found}
use Rattle.interface.proofs.History.HistoryLaws.{Valid, held_is, live_held}
use Rattle.interface.proofs.History.CutLaws.{source_live, among_one}
use Rattle.interface.proofs.History.NoteLaws.{null_held, live_holds}
use Rattle.interface.proofs.History.BootLaws.{boot_tables_lem, boot_sound, boot_past, boot_follows}
use Rattle.interface.proofs.History.LentOutLaws.{below_heir, one_revoked}
use Rattle.interface.proofs.Consequences.ConsequenceLaws.{boot_ends}

-- every place but the root's two pages has depth 0 at boot
boot_flat : all_below places (λ p. eqb p (place_of root memory 62) || eqb p (place_of root memory 63) || eqb (boot_cap p).depth 0) ≡ true
unfolding space_of all_below boot_tables_lem
boot_flat = refl

-- what a place has above it at boot
above : (p : ℕ) →
    ancestors boot_cap p ≡ (if eqb p (place_of root memory 62) then place_of hypervisor memory 62 ∷ [] else if eqb p (place_of root memory 63) then place_of hypervisor memory 63 ∷ [] else [])
unfolding space_of chain ancestors boot_tables_lem
above p =
    cases (eqb p (place_of root memory 62)) (λ (t : eqb p (place_of root memory 62) ≡ true). rw (eqb-true p (place_of root memory 62) t))
    (λ (f : eqb p (place_of root memory 62) ≡ false).
    cases (eqb p (place_of root memory 63)) (λ (t : eqb p (place_of root memory 63) ≡ true). rw (eqb-true p (place_of root memory 63) t))
    (λ (g : eqb p (place_of root memory 63) ≡ false).
    let flat : (boot_cap p).depth ≡ 0 =
    cases (ltb p places)
    (λ (t : ltb p places ≡ true).
    eqb-true (boot_cap p).depth 0
    (rw (f, g) at (all_below_at places (λ p. eqb p (place_of root memory 62) || eqb p (place_of root memory 63) || eqb (boot_cap p).depth 0) boot_flat p (ltb-true p places t))))
    (λ (past : ltb p places ≡ false). ap (λ (cap : Cap). cap.depth) (boot_past p (ltb-false p places past)))
    in
    rw (f, g, flat)))

-- the pairs of places at boot of which the second is below the first
abbrev lent_pair : ℕ → ℕ → Bool
lent_pair place other = (eqb other (place_of root memory 62) && eqb place (place_of hypervisor memory 62)) || (eqb other (place_of root memory 63) && eqb place (place_of hypervisor memory 63))

-- a place that is neither of domain 0's two pages has nothing below it
unpaired : (place other : ℕ) → eqb place (place_of hypervisor memory 62) ≡ false → eqb place (place_of hypervisor memory 63) ≡ false → lent_pair place other ≡ false
unpaired place other f g = rw (f, g, and-false (eqb other (place_of root memory 62)), and-false (eqb other (place_of root memory 63)))

below_boot : (place other : ℕ) → below boot_cap place 1 other ≡ lent_pair place other
unfolding any below
below_boot place other =
    cases (eqb other (place_of root memory 62))
    (λ (t : eqb other (place_of root memory 62) ≡ true).
    rw (above other, t, eqb-true other (place_of root memory 62) t) (ap (λ (b : Bool). b || false) (among_one place (place_of hypervisor memory 62))))
    (λ (f : eqb other (place_of root memory 62) ≡ false).
    cases (eqb other (place_of root memory 63))
    (λ (t : eqb other (place_of root memory 63) ≡ true). rw (above other, f, t) (or-false (among place 1 (place_of hypervisor memory 63)) ∙ among_one place (place_of hypervisor memory 63)))
    (λ (g : eqb other (place_of root memory 63) ≡ false). rw (above other, f, g)))

-- nothing came from what a place does not hold
from_none : (h : History) (place other : ℕ) → held h place ≡ 0 → heir h place other ≡ false
unfolding heir came_from
from_none h place other e = rw e (go (held h other))
  where
    go : (link : ℕ) → (not (eqb other place) && came_from h.fillings link 0) ≡ false
    go zero = and-false (not (eqb other place))
    go (suc k) = and-false (not (eqb other place))

-- whether a place is live in what boot's history shows
told_boot : (place : ℕ) → live ((told boot_history).caps place) ≡ live (boot_cap place)
told_boot place = ap (λ (s : State). live (s.caps place)) boot_follows.0

heirs_there : (place other : ℕ) → heir boot_history place other ≡ lent_pair place other
unfolding space_of boot_tables_lem
heirs_there place other =
    cases (live (boot_cap place))
    (λ (t : live (boot_cap place) ≡ true).
    let one = live_holds boot_history boot_follows.1 place (told_boot place ∙ t) in
    sym (below_heir boot_history boot_follows.1 place one.0 one.1 other) ∙ ap (λ (s : State). below s.caps place 1 other) boot_follows.0 ∙
    below_boot place other)
    (λ (f : live (boot_cap place) ≡ false).
    let apart : (page : ℕ) → live (boot_cap page) ≡ true → eqb place page ≡ false =
    λ page alive. ne_eqb place page (λ e. not_both (live (boot_cap place)) (rw e alive) f)
    in
    from_none boot_history place other (null_held boot_history boot_follows.1 place (told_boot place ∙ f)) ∙
    sym (unpaired place other (apart (place_of hypervisor memory 62) refl) (apart (place_of hypervisor memory 63) refl)))

-- the filling of a place that shows a parent: its source is what the parent holds
source_held : (h : History) → Valid h → (place k parent : ℕ) → held h place ≡ suc k → (held_cap h.fillings (suc k)).parent ≡ suc parent →
    (j : ℕ) × (held h parent ≡ suc j) × ((h.fillings k).source ≡ suc j)
unfolding held_cap place_link
source_held h valid place k parent holds linked = go (h.fillings k).source refl
  where
    go : (link : ℕ) → (h.fillings k).source ≡ link → (j : ℕ) × (held h parent ≡ suc j) × ((h.fillings k).source ≡ suc j)
    go zero e = absurd (let none : 0 ≡ suc parent = rw e at linked in omega arith)
    go (suc j) e =
        let is = held_is h valid place k holds in
        let there : (h.fillings j).place + 1 ≡ suc parent = rw e at linked in
        let at_parent : (h.fillings j).place ≡ parent = omega arith in
        let s = source_live h valid k j is.2 is.1 e in
        (j, rw at_parent at (live_held h valid j (omega (arith, s.0, is.2)) s.1), e)

-- so boot's history has a place's filling from the one that its parent at boot holds
filling_from : (parent place resource permissions : ℕ) → live (boot_cap place) ≡ true →
    boot_cap place ≡ record { resource = resource; permissions = permissions; parent = parent + 1; depth = 1 } →
    (k j : ℕ) × (held boot_history place ≡ suc k) × (held boot_history parent ≡ suc j) ×
    (boot_history.fillings k ≡ record { place = place; resource = resource; permissions = permissions; source = suc j })
unfolding held_cap
filling_from parent place resource permissions alive is_cap =
    let valid = boot_follows.1 in
    let (k, holds) = live_holds boot_history valid place (told_boot place ∙ alive) in
    let shown : held_cap boot_history.fillings (suc k) ≡ record { resource = resource; permissions = permissions; parent = parent + 1; depth = 1 } =
    ap (held_cap boot_history.fillings) (sym holds) ∙ ap (λ (s : State). s.caps place) boot_follows.0 ∙ is_cap
    in
    let linked : (held_cap boot_history.fillings (suc k)).parent ≡ suc parent = ap (λ (cap : Cap). cap.parent) shown ∙ add-one parent in
    let (j, from_parent, source) = source_held boot_history valid place k parent holds linked in (
      k,
      j,
      holds,
      from_parent,
      (λ i.
          record {
            place = (held_is boot_history valid place k holds).0 i;
            resource = (shown i).resource;
            permissions = (shown i).permissions;
            source = source i;
          }),
    )

-- boot adds a filling for each live place
total_boot : (n : ℕ) → (boot_fillings n).total ≡ count_below n (λ p. live (boot_cap p))
unfolding boot_fillings count_below
total_boot zero = refl
total_boot (suc n) =
    cases (live (boot_cap n)) (λ (t : live (boot_cap n) ≡ true). rw (t, total_boot n) (sym (add-one (count_below n (λ p. live (boot_cap p))))))
    (λ (f : live (boot_cap n) ≡ false). rw (f, total_boot n) (sym (add-zero (count_below n (λ p. live (boot_cap p))))))

all_filled : count_below places (λ p. live (boot_cap p)) ≡ 161
unfolding space_of count_below boot_tables_lem
all_filled = refl

-- the census of a live place after boot, by its descendants
count_one : (place only : ℕ) → place < places → live (boot_cap place) ≡ true → descendants boot_cap place ≡ only ∷ [] → (list : List ℕ) → 1 ≤ length list →
    census_of (tables_of boot) place list ≡ record { reply = Ok 1; list = only ∷ drop 1 list }
count_one place only small alive found list enough =
    census_shown boot boot_ends boot_sound place list ∙ counted_found boot place (only ∷ []) list small alive found enough

-- REVOKE of a place of the root with self 1, where nothing is below it
module _ (place : ℕ) (of_root : domain_of place ≡ root) (nothing_below : (other : ℕ) → below boot_cap place 1 other ≡ false)
    (all_gone : stripped whole_mask (boot_cap place) ≡ nothing) where
  -- it empties the place and leaves every other as it was
  emptied : (p : ℕ) → cut_caps whole_mask place 1 true boot_cap p ≡ put boot_cap place nothing p
  unfolding cut_caps
  emptied p =
      rw (nothing_below p, among_one place p)
      (cases (eqb place p)
      (λ (t : eqb place p ≡ true). rw (← (eqb-true place p t), eq-eqb place place refl, put_same boot_cap place nothing) all_gone)
      (λ (f : eqb place p ≡ false). rw f (sym (put_other boot_cap place nothing p (λ e. eqb-false place p f (sym e))))))

  module _ (c : Call) (is_revoke : c.number ≡ REVOKE) (by_root : c.caller ≡ root_ec) (descriptor : reading c.first ≡ Good (one_place place)) (with_self : c.second ≡ 1) where
    by_ec : is_ec boot c.caller ≡ true
    unfolding is_ec boot_record
    by_ec = rw by_root

    of_domain : boot.objects c.caller domain_word ≡ domain_of place
    unfolding boot_record
    of_domain = rw (by_root, of_root)

    granted : rules boot c ≡ grant 0 (cut whole_mask place 1 true ∷ [])
    granted = one_revoked boot place c true boot_sound is_revoke by_ec of_domain descriptor with_self

    state_after : after boot c ≡ record { caps = put boot_cap place nothing; objects = boot.objects }
    unfolding after run act
    state_after =
        (rw granted) ∙
        state_same (act (cut whole_mask place 1 true) boot) (record { caps = put boot_cap place nothing; objects = boot.objects }) emptied (λ r i. refl)

    gives_up : (hypercall_reply (tables_of boot) c ≡ Ok 0) ×
        (hypercall_tables (tables_of boot) c ≡ tables_of (record { caps = put boot_cap place nothing; objects = boot.objects }))
    gives_up = (ap reply_of (judged_shown boot boot_ends c ∙ granted), tables_shown boot boot_ends c ∙ ap tables_of state_after)

-- the root has no other page, and no port
few_pages : all_below 62 (λ page. same_cap (boot_cap (place_of root memory page)) nothing) ≡ true
unfolding space_of all_below boot_tables_lem
few_pages = refl

no_ports : all_below 64 (λ port. same_cap (boot_cap (place_of root io port)) nothing) ≡ true
unfolding space_of all_below boot_tables_lem
no_ports = refl

-- the words of the two pages are computed, and the rest follows by the laws above
pub boot_lends : BootLends
unfolding space_of any gather chain ancestors below stripped descendants boot_tables_lem
boot_lends =
    record {
      information_page_lem =
          record {
            shows = refl;
            delegated_so = refl;
            filled_from = filling_from (place_of hypervisor memory 63) (place_of root memory 63) 63 1 refl refl;
            counts_root = count_one (place_of hypervisor memory 63) (place_of root memory 63) (omega arith) refl refl;
            given_up = gives_up (place_of root memory 63) refl (λ other. below_boot (place_of root memory 63) other ∙ unpaired (place_of root memory 63) other refl refl) refl;
          };
      utcb_page_lem =
          record {
            shows = refl;
            delegated_so = refl;
            filled_from = filling_from (place_of hypervisor memory 62) (place_of root memory 62) 62 3 refl refl;
            counts_root = count_one (place_of hypervisor memory 62) (place_of root memory 62) (omega arith) refl refl;
            given_up = gives_up (place_of root memory 62) refl (λ other. below_boot (place_of root memory 62) other ∙ unpaired (place_of root memory 62) other refl refl) refl;
          };
      no_other_page =
          λ page l.
          same_cap_lem (boot_cap (place_of root memory page)) nothing (all_below_at 62 (λ page. same_cap (boot_cap (place_of root memory page)) nothing) few_pages page l);
      no_port =
          λ port l.
          same_cap_lem (boot_cap (place_of root io port)) nothing
          (all_below_at 64 (λ port. same_cap (boot_cap (place_of root io port)) nothing) no_ports port l);
      one_for_each = total_boot places;
      fillings_at_boot = total_boot places ∙ all_filled;
      heirs_at_boot = heirs_there;
    }
