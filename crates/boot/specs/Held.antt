-- Which object a domain holds at an object selector at boot, and the capability for it.
use Rattle.std.specs.Prelude.{Option, Some, None, ℕ, ◌+◌, ◌-◌, ◌&&◌, leb, ltb, if◌then◌else◌}
use Rattle.layout.specs.declared.ObjectNumber.{ObjectNumber}
use Rattle.layout.specs.Numbers.{numbered}
use Rattle.interface.specs.Places.{Cap, nothing}
use Rattle.interface.specs.Boot.{root_pd, root_objects, exc, boot_object}

-- domain 0 holds the objects before the root's, each at the selector of its own number
unfoldable pub hypervisor_object : ℕ → Option ObjectNumber
hypervisor_object selector = if ltb selector root_pd then numbered selector else None

-- the root holds its PD, EC and SC at the selectors from EXC on
unfoldable pub root_object : ℕ → Option ObjectNumber
root_object selector = if leb exc selector && ltb selector (exc + root_objects) then numbered (root_pd + (selector - exc)) else None

-- what a place holds at boot by its object, if it has one
unfoldable pub held_cap : (Option ObjectNumber) → Cap
held_cap (Some object) = boot_object object.0
held_cap None = nothing
