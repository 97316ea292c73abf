-- LOOKUP.
use Rattle.std.specs.Prelude.{ℕ, zero, suc, ◌+◌, ◌^◌, Bool, not, ◌&&◌, [], eqb, if◌then◌else◌}
use Rattle.words.specs.Sizes.{place_of, greatest_order}
use Rattle.words.specs.Ranges.{rounded}
use Rattle.descriptor.specs.declared.Range.{Range}
use Rattle.descriptor.specs.declared.Reading.{Reading}
use Rattle.descriptor.specs.declared.Reading.TheVariants.{Null, Malformed, Good}
use Rattle.reply.specs.declared.Refusal.TheVariants.{BadPar}
use Rattle.interface.specs.Basics.{all_below}
use Rattle.interface.specs.Places.{Cap, State, live}
use Rattle.interface.specs.RangeDescriptors.{describe, reading, malformed}
use Rattle.interface.specs.Verdicts.{Call, Verdict, grant, require◌else◌then◌, caller_domain}

-- whether the places of the aligned range of an order around a selector are all live, with equal permissions and resources rising by one
unfoldable pub uniform : (ℕ → Cap) → ℕ → ℕ → Bool
uniform caps selector order =
    let base = rounded order selector in
    all_below (2 ^ order)
    (λ i.
    live (caps (base + i)) && eqb (caps (base + i)).permissions (caps selector).permissions &&
    eqb (caps (base + i)).resource ((caps base).resource + i))

-- the largest order, of at most a given one, of such a range around a live place; it is never below 0
unfoldable pub largest : (ℕ → Cap) → ℕ → ℕ → ℕ
largest caps selector zero = 0
largest caps selector (suc order) = if uniform caps selector (suc order) then suc order else largest caps selector order

-- the range that LOOKUP answers for a selector of a space, with the permissions as its mask
unfoldable pub around : (ℕ → Cap) → ℕ → ℕ → Range
around caps space selector =
    let order = largest caps selector (greatest_order space) in
    record { space = space; base = rounded order selector; order = order; mask = (caps selector).permissions }

-- what the places of a space of a domain show, by selector
abbrev pub space_caps : State → ℕ → ℕ → (ℕ → Cap)
space_caps s domain space selector = s.caps (place_of domain space selector)

-- the answer for a descriptor: 0 where it is null or the place of its base is, else the range around that base
unfoldable pub found : State → ℕ → Reading → ℕ
found s domain Null = 0
found s domain Malformed = 0
found s domain (Good range) =
    let caps = space_caps s domain range.space in
    if live (caps range.base) then describe (around caps range.space range.base) else 0

-- LOOKUP: descriptor, of which the type and the base are read
unfoldable pub lookup : State → Call → Verdict
lookup s c =
    require not (malformed (reading c.first)) else BadPar then
    grant (found s (caller_domain s c) (reading c.first)) []
