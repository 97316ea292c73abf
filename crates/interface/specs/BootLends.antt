-- What boot lends to the root: two pages, where they come from, and what is left when the root gives one up.
use Rattle.std.specs.Prelude.{ℕ, suc, ◌+◌, ◌<◌, ◌≤◌, ◌≡◌, ◌&&◌, ◌||◌, List, ◌∷◌, eqb, length, drop, Ok}
use Rattle.words.specs.Sizes.{memory, io, place_of, places}
use Rattle.descriptor.specs.declared.Reading.TheVariants.{Good}
use Rattle.interface.specs.Basics.{put, count_below}
use Rattle.interface.specs.Places.{live, nothing, tables_of}
use Rattle.interface.specs.Boot.{hypervisor, root, root_ec, boot}
use Rattle.interface.specs.RangeDescriptors.{reading}
use Rattle.interface.specs.Effects.{handed}
use Rattle.interface.specs.Verdicts.{Call, REVOKE}
use Rattle.interface.specs.Rules.{hypercall_reply, hypercall_tables}
use Rattle.interface.specs.Census.{census_of}
use Rattle.interface.specs.History.{held, heir, boot_history}
use Rattle.interface.specs.Demand.{one_place}

-- boot lends the root a page with some permissions
pub record LentAtBoot (page permissions : ℕ) : Type 0 where
  -- the root has the page with these permissions at its own selector, with domain 0's place of the same selector as parent and depth 1: what delegation makes of that place with these
  -- permissions as mask
  pub shows : boot.caps (place_of root memory page) ≡ record { resource = page; permissions = permissions; parent = place_of hypervisor memory page + 1; depth = 1 }
  pub delegated_so : boot.caps (place_of root memory page) ≡ handed (boot.caps (place_of hypervisor memory page)) (place_of hypervisor memory page) permissions
  -- in boot's history it has a filling of the page with these permissions, whose source is the filling that domain 0's place holds
  pub filled_from : (k j : ℕ) × (held boot_history (place_of root memory page) ≡ suc k) × (held boot_history (place_of hypervisor memory page) ≡ suc j) ×
      (boot_history.fillings k ≡ record { place = place_of root memory page; resource = page; permissions = permissions; source = suc j })
  -- the census of domain 0's place after boot, given a word or more, counts and lists the root's place alone
  pub counts_root : (list : List ℕ) → 1 ≤ length list →
      census_of (tables_of boot) (place_of hypervisor memory page) list ≡ record { reply = Ok 1; list = place_of root memory page ∷ drop 1 list }
  -- a REVOKE of the root's place alone, with all mask bits and self 1, by the root's EC after boot, succeeds, makes that place null, and leaves every other place and every object
  -- alone
  pub given_up : (c : Call) → c.number ≡ REVOKE → c.caller ≡ root_ec → reading c.first ≡ Good (one_place (place_of root memory page)) → c.second ≡ 1 →
      (hypercall_reply (tables_of boot) c ≡ Ok 0) ×
      (hypercall_tables (tables_of boot) c ≡ tables_of (record { caps = put boot.caps (place_of root memory page) nothing; objects = boot.objects }))

-- Boot lends the root page 63 with permissions 1 and page 62 with permissions 3, and no other page and no port. Its history has a filling for each of the 161 places that it fills; there
-- the root's two places are heirs of domain 0's, and no other place is an heir of any
pub record BootLends : Type 0 where
  pub information_page_lem : LentAtBoot 63 1
  pub utcb_page_lem : LentAtBoot 62 3
  pub no_other_page : (page : ℕ) → page < 62 → boot.caps (place_of root memory page) ≡ nothing
  pub no_port : (port : ℕ) → port < 64 → boot.caps (place_of root io port) ≡ nothing
  pub one_for_each : boot_history.total ≡ count_below places (λ place. live (boot.caps place))
  pub fillings_at_boot : boot_history.total ≡ 161
  pub heirs_at_boot : (place other : ℕ) →
      heir boot_history place other ≡
      ((eqb other (place_of root memory 62) && eqb place (place_of hypervisor memory 62)) || (eqb other (place_of root memory 63) && eqb place (place_of hypervisor memory 63)))
