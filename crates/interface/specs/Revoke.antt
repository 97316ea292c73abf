-- REVOKE.
use Rattle.std.specs.Prelude.{ℕ, ◌^◌, Bool, false, not, List, [], ◌∷◌, eqb, leb}
use Rattle.words.specs.Sizes.{place_of}
use Rattle.words.specs.Permissions.{delegated}
use Rattle.descriptor.specs.declared.Reading.{Reading}
use Rattle.descriptor.specs.declared.Reading.TheVariants.{Null, Malformed, Good}
use Rattle.reply.specs.declared.Refusal.TheVariants.{BadPar}
use Rattle.interface.specs.Places.{State, greatest_in}
use Rattle.interface.specs.RangeDescriptors.{reading, malformed}
use Rattle.interface.specs.Effects.{Effect, cut}
use Rattle.interface.specs.Verdicts.{Call, Verdict, grant, require◌else◌then◌, caller_domain}

-- whether a descriptor is a range whose mask lies outside the greatest permissions of its space: it has no bit among them, so nothing can be revoked by it. A null descriptor is no
-- range
abbrev pub mask_is_outside : Reading → Bool
mask_is_outside Null = false
mask_is_outside Malformed = false
mask_is_outside (Good range) = eqb (delegated (greatest_in range.space) range.mask) 0

-- the steps of a descriptor's revocation in a domain: a null descriptor's are none
abbrev pub cuts : ℕ → Bool → Reading → List Effect
cuts domain self Null = []
cuts domain self Malformed = []
cuts domain self (Good range) = cut range.mask (place_of domain range.space range.base) (2 ^ range.order) self ∷ []

-- REVOKE: descriptor, self word. The mask's permissions are removed from every strict descendant of a place in the range, and with self 1 from the range
unfoldable pub revoke : State → Call → Verdict
revoke s c =
    require leb c.second 1 else BadPar then
    require not (malformed (reading c.first)) else BadPar then
    require not (mask_is_outside (reading c.first)) else BadPar then
    grant 0 (cuts (caller_domain s c) (eqb c.second 1) (reading c.first))
