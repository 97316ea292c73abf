-- What the pass over the places cites beside their rules: a shorter test of a place, and the places that are looked at together.
use Rattle.std.specs.Prelude.{ℕ, ◌+◌, ◌-◌, ◌*◌, ◌%◌, ◌<◌, ◌≤◌, ◌≡◌, Bool, true, ◌&&◌, ◌||◌, eqb, leb, ltb, length, if◌then◌else◌}
use Rattle.words.specs.Sizes.{object, stride, domain_of, space_of, records, greatest_depth}
use Rattle.interface.specs.Basics.{all_below}
use Rattle.interface.specs.Places.{State, Tables, nothing, kind_of, greatest_of, place_table_words, shown}
use Rattle.interface.specs.Boot.{hypervisor}
use Rattle.interface.specs.Damage.{same_cap, has_pd, parent_fits}
use Rattle.record_rules.specs.RecordKeeping.{Kept}

-- a shorter test of a place outside domain 0: a live one with a parent is held against that alone, whose resource and greatest permissions are its own
unfoldable pub quick_keeps : State → ℕ → Bool
quick_keeps s p =
    let cap = s.caps p in
    if ltb p stride then true else
    if eqb cap.permissions 0 then same_cap cap nothing else
    if eqb cap.parent 0 then
    (eqb (domain_of p) hypervisor || has_pd s (domain_of p)) && eqb (space_of p) object && eqb cap.depth 0 &&
    (ltb cap.resource records && leb cap.permissions (greatest_of (kind_of s cap.resource)))
    else (eqb (domain_of p) hypervisor || has_pd s (domain_of p)) && parent_fits s (space_of p) cap (cap.parent - 1) && leb cap.depth greatest_depth

-- so many places are looked at together: each space has a multiple of them
abbrev pub group : ℕ
group = 32

-- and so many where no domain has a PD: each domain has a multiple of them
abbrev pub run : ℕ
run = 64

-- a place table and records that keep their rules, where groups of places outside domain 0 have been passed over up to one of a domain with a PD,
-- and all places before it pass the shorter test
pub record Passed (tables : Tables) (first : ℕ) : Type 0 where
  pub pds : ℕ
  pub places_long : length tables.places ≡ place_table_words
  pub kept : Kept tables.objects pds
  pub past_hypervisor : stride ≤ first
  pub has_pd_lem : first < stride * (pds + 1)
  pub aligned : first % group ≡ 0
  pub passed : all_below first (quick_keeps (shown tables)) ≡ true
