-- Repair of found tables: sections 17.4 and 17.6 of the manual. Null places and, outside domain 0, places that cannot be accounted for are emptied, and nothing else changes.
use Rattle.std.specs.Prelude.{ℕ, zero, suc, ◌+◌, ◌-◌, Bool, true, false, not, ◌&&◌, ◌||◌, eqb, if◌then◌else◌, Ok, Err}
use Rattle.words.specs.Sizes.{domain_of, places, greatest_depth}
use Rattle.reply.specs.Replies.{Reply}
use Rattle.reply.specs.declared.Refusal.TheVariants.{Damaged}
use Rattle.interface.specs.Basics.{count_below}
use Rattle.interface.specs.Places.{Cap, State, Tables, live, nothing, sized, shown, place_table}
use Rattle.interface.specs.Boot.{hypervisor}
use Rattle.interface.specs.Damage.{live_place, shallow, sound}

-- whether a chain (the place itself, its parent, the parent of that, and so on) comes to a place without a parent within so many places, each of which keeps the rules 11 and 12
unfoldable pub whole_within : ℕ → State → ℕ → Bool
whole_within zero s p = false
whole_within (suc more) s p =
    live_place s p && shallow s p && (if eqb (s.caps p).parent 0 then true else whole_within more s ((s.caps p).parent - 1))

-- whether the chain of a live place is whole: the places of one that is have different depths, so there are no more of them than depths. Of a null place, which keeps rule 11 whatever
-- its parent word, this says nothing
unfoldable pub whole : State → ℕ → Bool
whole s p = whole_within (greatest_depth + 1) s p

-- whether a place stays as it is found: a live place of domain 0 does, and one elsewhere whose chain is whole
unfoldable pub stays : State → ℕ → Bool
stays s p = live (s.caps p) && (eqb (domain_of p) hypervisor || whole s p)

-- what a place shows after repair: what it did, or nothing
unfoldable pub repaired_cap : State → ℕ → Cap
repaired_cap s p = if stays s p then s.caps p else nothing

abbrev pub repaired_state : State → State
repaired_state s = record { caps = repaired_cap s; objects = s.objects }

-- the repaired tables; tables of wrong lengths are left alone
unfoldable pub repaired : Tables → Tables
repaired tables = if sized tables then record { places = place_table (repaired_state (shown tables)); objects = tables.objects } else tables

-- how many capabilities repair takes away: the live places that it empties
unfoldable pub lost : State → ℕ
lost s = count_below places (λ p. live (s.caps p) && not (stays s p))

-- what the operation comes to: tables that would be damaged still are refused, and stay
pub record Repairing : Type 0 where
  pub reply : Reply
  pub tables : Tables

unfoldable pub repairing : Tables → Repairing
repairing tables =
    if sound (repaired tables) then record { reply = Ok (lost (shown tables)); tables = repaired tables } else
    record { reply = Err Damaged; tables = tables }
