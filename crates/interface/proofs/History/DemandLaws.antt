-- Demand 3, over any events: the history follows the tables from boot on; and its last REVOKE exists.
use Prim.Native.Nat.{ℕ, ◌%◌}
use mathlib.Core.Path.{◌≡◌, refl, sym, ap, ◌∙◌, subst}
use mathlib.Core.List.{List, [], ◌∷◌, ◌++◌}
use native.Mathlib.Omega.{arith}
use borrow.Author.Tests.{eq-eqb}
use Rattle.words.specs.Sizes.{selector_of}
use Rattle.words.proofs.PlaceLaws.{space_small, selector_small}
use Rattle.descriptor.specs.Descriptors.{Proper}
use Rattle.descriptor.proofs.DescriptorLaws.{range_back}
use Rattle.interface.specs.Places.{State, Tables, tables_of}
use Rattle.interface.specs.Boot.{boot}
use Rattle.interface.specs.Verdicts.{Call, effects_of}
use Rattle.interface.specs.Rules.{rules, after, hypercall_tables}
use Rattle.interface.specs.History.{History, Event, hypercalls, counts, told, tell, told_all, boot_history}
use Rattle.interface.specs.Outcomes.{outcome}
use Rattle.interface.specs.Census.{census_of}
use Rattle.interface.specs.Demand.{tables_after, tables_after_all, one_place, LastRevokeExists, LentOut, from_boot, history_of, Demand3, GoesOn, ShowsHeirs}
use Rattle.interface.proofs.Sound.Soundness.{Sound, sound_facts}
use Rattle.interface.proofs.Sound.RulesFit.{rules_fit}
use Rattle.interface.proofs.History.HistoryLaws.{Valid}
use Rattle.interface.proofs.History.NoteLaws.{Follows}
use Rattle.interface.proofs.History.Sequences.{run_sound, notes_follow}
use Rattle.interface.proofs.History.BootLaws.{boot_sound, boot_follows}
use Rattle.interface.proofs.History.LentOutLaws.{told_ends, lent_out}
use Rattle.interface.proofs.Tables.ShownLaws.{tables_shown}

-- a call leaves a sound state sound
pub after_sound : (s : State) (c : Call) → Sound s → Sound (after s c)
unfolding after
after_sound s c sound = run_sound (effects_of (rules s c)) s sound (rules_fit s c)

-- the history follows a call
pub tell_follows : (h : History) (c : Call) → Valid h → Sound (told h) → Follows (tell h (hypercalls c)) (after (told h) c)
unfolding tell after
tell_follows h c valid sound = notes_follow (effects_of (rules (told h) c)) h valid sound (rules_fit (told h) c)

from_here : (events : List Event) (tables : Tables) (h : History) → tables ≡ tables_of (told h) → Valid h → Sound (told h) →
    LentOut (tables_after_all tables events) (told_all h events)
unfolding tables_after_all tables_after told_all tell
from_here [] tables h e valid sound = subst (λ (t : Tables). LentOut t h) (sym e) (lent_out h valid sound)
from_here (hypercalls c ∷ events) tables h e valid sound =
    let follows = tell_follows h c valid sound in
    from_here events (hypercall_tables tables c) (tell h (hypercalls c))
    (ap (λ (t : Tables). hypercall_tables t c) e ∙ tables_shown (told h) (told_ends h valid) c ∙ ap tables_of (sym follows.0))
    follows.1
    (subst Sound (sym follows.0) (after_sound (told h) c sound))
from_here (counts place list ∷ events) tables h e valid sound = from_here events tables (tell h (counts place list)) e valid sound

pub demand_3 : Demand3
demand_3 events =
    from_here events (tables_of boot) boot_history (ap tables_of (sym boot_follows.0)) boot_follows.1
    (subst Sound (sym boot_follows.0) (sound_facts boot boot_sound))

-- events and one more, in turn
tables_further : (events : List Event) (event : Event) (tables : Tables) →
    tables_after_all tables (events ++ (event ∷ [])) ≡ tables_after (tables_after_all tables events) event
unfolding tables_after_all
tables_further [] event tables = refl
tables_further (first ∷ events) event tables = tables_further events event (tables_after tables first)

-- demand 3 at tables that some events from boot left
lent_out_here : (here : Tables) (events : List Event) → here ≡ from_boot events → LentOut here (history_of events)
lent_out_here here events e = subst (λ (t : Tables). LentOut t (history_of events)) (sym e) (demand_3 events)

-- one more hypercall, and one more census, after any events from boot
pub goes_on : (here : Tables) (c : Call) → GoesOn here c (outcome here c)
unfolding tables_after
goes_on here c =
    record {
      next_tables = λ events e. ap (λ (t : Tables). hypercall_tables t c) e ∙ sym (tables_further events (hypercalls c) (tables_of boot));
      empties_heirs = λ events e place l t revokes. (lent_out_here here events e).revoke_exact place l t c revokes;
    }

pub shows_heirs : (here : Tables) (place : ℕ) (list : List ℕ) → ShowsHeirs here place list (census_of here place list)
unfolding tables_after
shows_heirs here place list =
    record {
      same_tables = λ events e. e ∙ sym (tables_further events (counts place list) (tables_of boot));
      counts_heirs = λ events e l t enough. (lent_out_here here events e).census_exact place l t list enough;
    }

-- one place is a proper range
one_place_proper : (place : ℕ) → Proper (one_place place)
one_place_proper place =
    record {
      space_small = space_small place;
      order_small = omega arith;
      base_aligned = eq-eqb (selector_of place % 1) 0 (omega arith);
      ends_inside = omega (arith, selector_small place);
      mask_small = omega arith;
    }

pub last_revoke_exists : LastRevokeExists
last_revoke_exists =
    record {
      is_word = λ place l. omega (arith, space_small place, selector_small place);
      read_as_one = λ place l. range_back (one_place place) (one_place_proper place);
      by_any_ec =
          λ s place ec l e d.
          record {
            is_revoke = refl;
            by_ec = e;
            of_domain = d;
            descriptor = range_back (one_place place) (one_place_proper place);
            without_self = refl;
          };
    }
