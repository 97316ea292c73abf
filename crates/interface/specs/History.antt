-- The history: what the calls alone tell of who has what, and from whom. It is fed each call's number and arguments, and no answer and no word of a table.
use Rattle.std.specs.Prelude.{ℕ, zero, suc, ◌+◌, Bool, false, not, ◌&&◌, ◌||◌, List, [], ◌∷◌, eqb, ltb, length, if◌then◌else◌}
use Rattle.words.specs.Sizes.{memory, place_of, domain_of, space_of, selector_of, places}
use Rattle.words.specs.Permissions.{delegated, revoked}
use Rattle.interface.specs.Basics.{word, put, put_from, any, gather}
use Rattle.interface.specs.Places.{Cap, State, live, nothing, kind_of, greatest_of}
use Rattle.interface.specs.Boot.{hypervisor, root, boot, boot_cap}
use Rattle.interface.specs.Effects.{Effect, give, make, hold, cut, store, chain, among, fills}
use Rattle.interface.specs.Verdicts.{Call, effects_of}
use Rattle.interface.specs.Rules.{rules}

-- filling: a place came to hold a resource with some permissions, from a source filling (its number plus 1) or from none (0)
pub record Filling : Type 0 where
  pub place : ℕ
  pub resource : ℕ
  pub permissions : ℕ
  pub source : ℕ

-- the objects as the rules make them, and the fillings so far, numbered from 0 in their order
pub record History : Type 0 where
  pub objects : ℕ → ℕ → ℕ
  pub total : ℕ
  pub fillings : ℕ → Filling

-- the latest filling of a place among the first ones: its number plus 1, or 0
unfoldable pub latest : (ℕ → Filling) → ℕ → ℕ → ℕ
latest fillings zero place = 0
latest fillings (suc n) place = if eqb (fillings n).place place then suc n else latest fillings n place

-- a filling (its number plus 1) while it has permissions, else 0
unfoldable pub standing : (ℕ → Filling) → ℕ → ℕ
standing fillings zero = 0
standing fillings (suc k) = if ltb 0 (fillings k).permissions then suc k else 0

-- the filling that a place holds, its latest while that has permissions: its number plus 1, or 0 for nothing
unfoldable pub held : History → ℕ → ℕ
held h place = standing h.fillings (latest h.fillings h.total place)

-- what a filling came from, nearest first: its source, and all that this came from. Sources are older, so there are no more than the filling's number
unfoldable pub origins : (ℕ → Filling) → ℕ → List ℕ
origins fillings k = chain k (λ j. (fillings j).source) (fillings k).source

-- the place of a filling (a number plus 1), plus 1; 0 for none
unfoldable pub place_link : (ℕ → Filling) → ℕ → ℕ
place_link fillings zero = 0
place_link fillings (suc k) = (fillings k).place + 1

-- what a place that holds a filling shows; the depth is the number of fillings that it came from
unfoldable pub held_cap : (ℕ → Filling) → ℕ → Cap
held_cap fillings zero = nothing
held_cap fillings (suc k) =
    record {
      resource = (fillings k).resource;
      permissions = (fillings k).permissions;
      parent = place_link fillings (fillings k).source;
      depth = length (origins fillings k);
    }

-- the state that the rules judge a call on
abbrev pub told : History → State
told h = record { caps = λ place. held_cap h.fillings (held h place); objects = h.objects }

-- a history with one more filling
abbrev pub added : History → Filling → History
added h filling = record { objects = h.objects; total = suc h.total; fillings = put h.fillings h.total filling }

-- whether a filling is held among some places
unfoldable pub held_among : History → ℕ → ℕ → ℕ → Bool
held_among h first size k = among first size (h.fillings k).place && eqb (held h (h.fillings k).place) (suc k)

-- REVOKE removes the mask's permissions from each filling that came from one held in the range, and with self from those held there
unfoldable pub cut_filling : ℕ → ℕ → ℕ → Bool → History → ℕ → Filling
cut_filling mask first size self h k =
    let f = h.fillings k in
    if any (held_among h first size) (origins h.fillings k) || (self && held_among h first size k)
    then record { place = f.place; resource = f.resource; permissions = revoked f.permissions mask; source = f.source }
    else f

-- what a step adds to the history: a delegation that fills a place adds a filling whose source is the one that the source place then holds
unfoldable pub note : Effect → History → History
note (give destination source mask) h =
    let cap = (told h).caps source in
    if fills (told h).caps destination source mask
    then
    added h
    (record { place = destination; resource = cap.resource; permissions = delegated cap.permissions mask; source = held h source })
    else h
note (make number words) h = record { objects = put h.objects number (word words); total = h.total; fillings = h.fillings }
note (hold place number) h = added h (record { place = place; resource = number; permissions = greatest_of (kind_of (told h) number); source = 0 })
note (cut mask first size self) h = record { objects = h.objects; total = h.total; fillings = cut_filling mask first size self h }
note (store number from words) h =
    record { objects = put h.objects number (put_from (h.objects number) from words); total = h.total; fillings = h.fillings }

unfoldable pub note_all : List Effect → History → History
note_all [] h = h
note_all (effect ∷ effects) h = note_all effects (note effect h)

-- the filling that boot fills a place from (its number plus 1, or 0): for the root's pages the one that domain 0's place of the same selector holds, and none for any other place
unfoldable pub boot_source : History → ℕ → ℕ
boot_source h place =
    if eqb (domain_of place) root && eqb (space_of place) memory then held h (place_of hypervisor memory (selector_of place)) else 0

-- boot adds a filling for each place that it fills, in the order of the places
unfoldable pub boot_fillings : ℕ → History
boot_fillings zero = record { objects = boot.objects; total = 0; fillings = λ k. record { place = 0; resource = 0; permissions = 0; source = 0 } }
boot_fillings (suc place) =
    let h = boot_fillings place in
    let cap = boot_cap place in
    if live cap then added h (record { place = place; resource = cap.resource; permissions = cap.permissions; source = boot_source h place }) else h

abbrev pub boot_history : History
boot_history = boot_fillings places

-- an event: a hypercall of any number with any words and blocks, or a census of any place with any list
pub data Event : Type 0 where
  hypercalls : Call → Event
  counts : (place : ℕ) (list : List ℕ) → Event

-- a call is judged and run by the rules on this state; a census changes nothing
unfoldable pub tell : History → Event → History
tell h (hypercalls c) = note_all (effects_of (rules (told h) c)) h
tell h (counts place list) = h

-- the history after events in turn
unfoldable pub told_all : History → List Event → History
told_all h [] = h
told_all h (event ∷ events) = told_all (tell h event) events

-- whether a filling (its number plus 1) came from another
unfoldable pub came_from : (ℕ → Filling) → ℕ → ℕ → Bool
came_from fillings zero other = false
came_from fillings (suc k) zero = false
came_from fillings (suc k) (suc j) = any (eqb j) (origins fillings k)

-- heir: another place that holds a filling which came from the one that a place holds
unfoldable pub heir : History → ℕ → ℕ → Bool
heir h place other = not (eqb other place) && came_from h.fillings (held h other) (held h place)

-- the heirs of a place, rising by place number, each once
abbrev pub heirs : History → ℕ → List ℕ
heirs h place = gather places (heir h place)
