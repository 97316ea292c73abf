-- Demand 3: what was lent out, over any sequence of events from boot.
use Rattle.std.specs.Prelude.{ℕ, ◌<◌, ◌≤◌, ◌^◌, ◌≡◌, true, ◌&&◌, List, [], ◌∷◌, ◌++◌, ltb, length, drop, if◌then◌else◌, Ok}
use Rattle.words.specs.Sizes.{domain_of, space_of, selector_of, places}
use Rattle.descriptor.specs.declared.Range.{Range}
use Rattle.descriptor.specs.declared.Reading.TheVariants.{Good}
use Rattle.interface.specs.Basics.{member, rising}
use Rattle.interface.specs.Places.{State, Tables, live, nothing, domain_word, cap_at, tables_of, shown}
use Rattle.interface.specs.Boot.{boot}
use Rattle.interface.specs.Damage.{is_ec}
use Rattle.interface.specs.RangeDescriptors.{describe, reading}
use Rattle.interface.specs.Verdicts.{Call, REVOKE}
use Rattle.interface.specs.Rules.{hypercall_reply, hypercall_block, hypercall_tables}
use Rattle.interface.specs.Outcomes.{Outcome}
use Rattle.interface.specs.Census.{CensusResult, census_of}
use Rattle.interface.specs.History.{History, Event, hypercalls, counts, held, told, heir, heirs, boot_history, told_all}

-- the tables after an event, and after events in turn, each on the tables that the one before left
unfoldable pub tables_after : Tables → Event → Tables
tables_after tables (hypercalls c) = hypercall_tables tables c
tables_after tables (counts place list) = tables

unfoldable pub tables_after_all : Tables → List Event → Tables
tables_after_all tables [] = tables
tables_after_all tables (event ∷ events) = tables_after_all (tables_after tables event) events

-- the mask with all five bits
abbrev pub whole_mask : ℕ
whole_mask = 31

-- the range that is a single place, with all mask bits
abbrev pub one_place : ℕ → Range
one_place place = record { space = space_of place; base = selector_of place; order = 0; mask = whole_mask }

-- a REVOKE of everything below a place, by an EC of its domain: order 0, all mask bits, self 0, by any descriptor that is read so; its other words and its blocks are any
pub record RevokesBelow (s : State) (place : ℕ) (c : Call) : Type 0 where
  pub is_revoke : c.number ≡ REVOKE
  pub by_ec : is_ec s c.caller ≡ true
  pub of_domain : s.objects c.caller domain_word ≡ domain_of place
  pub descriptor : reading c.first ≡ Good (one_place place)
  pub without_self : c.second ≡ 0

-- the REVOKE of everything below a place by an EC: its descriptor is that of the place alone, its other words are 0, and its blocks are empty
abbrev pub last_revoke : ℕ → ℕ → Call
last_revoke place ec =
    record {
      number = REVOKE;
      caller = ec;
      first = describe (one_place place);
      second = 0;
      third = 0;
      fourth = 0;
      fifth = 0;
      sixth = 0;
      source = [];
      target = [];
    }

-- The last REVOKE of demand 3 exists: each place's descriptor of order 0 with all mask bits is a word and is read as that place; so wherever an EC is of the place's domain, its
-- REVOKE by that descriptor is one of everything below the place
pub record LastRevokeExists : Type 0 where
  pub is_word : (place : ℕ) → place < places → describe (one_place place) < 2 ^ 32
  pub read_as_one : (place : ℕ) → place < places → reading (describe (one_place place)) ≡ Good (one_place place)
  pub by_any_ec : (s : State) (place ec : ℕ) → place < places → is_ec s ec ≡ true → s.objects ec domain_word ≡ domain_of place →
      RevokesBelow s place (last_revoke place ec)

-- what tables and a history say of each other
pub record LentOut (tables : Tables) (h : History) : Type 0 where
  -- the tables are those of the history's state, the objects among them
  pub same_state : tables ≡ tables_of (told h)
  -- a place is live exactly when it holds a filling
  pub live_held : (place : ℕ) → place < places → live (cap_at tables.places place) ≡ ltb 0 (held h place)
  -- the list of a place's heirs has each of them and no other number, rising by place number, each once
  pub heirs_exact : (place other : ℕ) → member other (heirs h place) ≡ (ltb other places && heir h place other)
  pub heirs_rise : (place : ℕ) → rising (heirs h place) ≡ true
  -- the census of a live place, given a word for each heir or more, succeeds with their number; its first words are the heirs, and its others stay
  pub census_exact : (place : ℕ) → place < places → live (cap_at tables.places place) ≡ true → (list : List ℕ) → length (heirs h place) ≤ length list →
      census_of tables place list ≡ record { reply = Ok (length (heirs h place)); list = heirs h place ++ drop (length (heirs h place)) list }
  -- revoking everything below a live place succeeds, makes exactly the heirs null, and leaves every other place's words, every object and the block alone
  pub revoke_exact : (place : ℕ) → place < places → live (cap_at tables.places place) ≡ true → (c : Call) → RevokesBelow (shown tables) place c →
      (hypercall_reply tables c ≡ Ok 0) ×
      ((other : ℕ) → other < places → cap_at (hypercall_tables tables c).places other ≡ (if heir h place other then nothing else cap_at tables.places other)) ×
      ((hypercall_tables tables c).objects ≡ tables.objects) ×
      (hypercall_block tables c ≡ c.target)

-- the tables that events in turn leave from boot on, and the history that they tell
abbrev pub from_boot : List Event → Tables
from_boot events = tables_after_all (tables_of boot) events

abbrev pub history_of : List Event → History
history_of events = told_all boot_history events

-- Demand 3: after any events from boot
abbrev pub Demand3 : Type 0
Demand3 = (events : List Event) → LentOut (from_boot events) (history_of events)

-- What code promises of it, so that a caller who knows the events so far can go on from call to call.

-- a hypercall on the tables that some events from boot left: it leaves those of these events and itself; and where it revokes everything below a live place, it succeeds, makes
-- exactly that place's heirs null, and leaves every other place's words, every object and the block alone
pub record GoesOn (here : Tables) (c : Call) (after : Outcome) : Type 0 where
  pub next_tables : (events : List Event) → here ≡ from_boot events → after.tables ≡ from_boot (events ++ (hypercalls c ∷ []))
  pub empties_heirs : (events : List Event) → here ≡ from_boot events → (place : ℕ) → place < places → live (cap_at here.places place) ≡ true →
      RevokesBelow (shown here) place c →
      (after.reply ≡ Ok 0) ×
      ((other : ℕ) → other < places →
      cap_at after.tables.places other ≡ (if heir (history_of events) place other then nothing else cap_at here.places other)) ×
      (after.tables.objects ≡ here.objects) ×
      (after.block ≡ c.target)

-- a census on the tables that some events from boot left: they are those of these events and itself; and of a live place, given a word for each heir or more, it succeeds with
-- the number of that place's heirs, and its list begins with them and goes on as it was
pub record ShowsHeirs (here : Tables) (place : ℕ) (list : List ℕ) (result : CensusResult) : Type 0 where
  pub same_tables : (events : List Event) → here ≡ from_boot events → here ≡ from_boot (events ++ (counts place list ∷ []))
  pub counts_heirs : (events : List Event) → here ≡ from_boot events → place < places → live (cap_at here.places place) ≡ true →
      length (heirs (history_of events) place) ≤ length list →
      result ≡
      record {
        reply = Ok (length (heirs (history_of events) place));
        list = heirs (history_of events) place ++ drop (length (heirs (history_of events) place)) list;
      }
