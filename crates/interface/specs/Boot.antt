-- Boot: what the tables show when the controller starts.
use Rattle.std.specs.Prelude.{ℕ, ◌+◌, ◌-◌, ◌&&◌, List, [], ◌∷◌, eqb, leb, ltb, if◌then◌else◌}
use Rattle.words.specs.Sizes.{memory, object, place_of, domain_of, space_of, selector_of, records}
use Rattle.interface.specs.Basics.{word}
use Rattle.interface.specs.Places.{Cap, State, nothing, parentless, free, PD, EC, SC, SM, kind_word, greatest}

-- the hypervisor's domain and the root's
abbrev pub hypervisor : ℕ
hypervisor = 0

abbrev pub root : ℕ
root = 1

-- CPUs, each with an idle SC, and interrupts (GSIs), each with a semaphore
abbrev pub cpus : ℕ
cpus = 4

abbrev pub gsis : ℕ
gsis = 24

-- the records of the root's PD, EC and SC, which follow the idle SCs and the interrupt semaphores
abbrev pub root_pd : ℕ
root_pd = cpus + gsis

abbrev pub root_ec : ℕ
root_ec = root_pd + 1

abbrev pub root_sc : ℕ
root_sc = root_pd + 2

-- the root holds these three at the selectors from this one on
abbrev pub root_objects : ℕ
root_objects = 3

abbrev pub exc : ℕ
exc = 32

-- the root's two pages, each at the selector of its own number: the information page, which it may read, and just below it the UTCB of its EC, which it may also write
abbrev pub information_page : ℕ
information_page = 63

abbrev pub information_permissions : ℕ
information_permissions = 1

abbrev pub utcb_page : ℕ
utcb_page = 62

abbrev pub utcb_permissions : ℕ
utcb_permissions = 3

-- the root SC's priority and quantum
abbrev pub root_priority : ℕ
root_priority = 1

abbrev pub root_quantum : ℕ
root_quantum = 10000

-- the EC word of an idle SC: the number of records, which is no EC's
abbrev pub no_ec : ℕ
no_ec = records

-- the words of each record at boot
unfoldable pub boot_record : ℕ → List ℕ
boot_record number =
    if ltb number cpus then SC ∷ no_ec ∷ [] else
    if ltb number root_pd then SM ∷ [] else
    if eqb number root_pd then PD ∷ root ∷ [] else
    if eqb number root_ec then EC ∷ root ∷ [] else
    if eqb number root_sc then SC ∷ root_ec ∷ root_priority ∷ root_quantum ∷ [] else
    []

-- a capability for a record of boot, with the greatest permissions of its kind
abbrev pub boot_object : ℕ → Cap
boot_object number = parentless number (greatest object (word (boot_record number) kind_word))

-- what domain 0 holds at boot: all pages and ports with greatest permissions, and the idle SCs and interrupt semaphores
unfoldable pub hypervisor_cap : ℕ → ℕ → Cap
hypervisor_cap space selector =
    if ltb space object then parentless selector (greatest space free) else
    if ltb selector root_pd then boot_object selector else
    nothing

-- a page as the root holds it at boot: its parent is domain 0's place of the same selector, and its depth is 1
abbrev pub lent_to_root : ℕ → ℕ → Cap
lent_to_root page permissions = record { resource = page; permissions = permissions; parent = place_of hypervisor memory page + 1; depth = 1 }

-- what the root holds in memory at boot: the information page and the UTCB of its EC
unfoldable pub root_memory : ℕ → Cap
root_memory selector =
    if eqb selector information_page then lent_to_root selector information_permissions else
    if eqb selector utcb_page then lent_to_root selector utcb_permissions else
    nothing

-- what the root holds at boot: its PD, EC and SC, and its two pages
unfoldable pub root_cap : ℕ → ℕ → Cap
root_cap space selector =
    if eqb space object && leb exc selector && ltb selector (exc + root_objects) then boot_object (root_pd + (selector - exc)) else
    if eqb space memory then root_memory selector else
    nothing

-- what each place shows at boot
unfoldable pub boot_cap : ℕ → Cap
boot_cap place =
    if eqb (domain_of place) hypervisor then hypervisor_cap (space_of place) (selector_of place) else
    if eqb (domain_of place) root then root_cap (space_of place) (selector_of place) else
    nothing

-- the state at boot
abbrev pub boot : State
boot = record { caps = boot_cap; objects = λ number. word (boot_record number) }
