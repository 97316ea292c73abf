-- What the functions over places cite beside the rules of damage: the rules of a place taken together, where a space begins and ends, and blank places.
use Rattle.std.specs.Prelude.{ℕ, ◌+◌, ◌-◌, ◌*◌, ◌/◌, ◌%◌, ◌^◌, ◌<◌, ◌≡◌, Bool, ◌&&◌, ◌||◌, List, eqb, length, if◌then◌else◌}
use Rattle.words.specs.Sizes.{selectors, start, stride, domain_of, space_of, places, place_words}
use Rattle.interface.specs.Basics.{word, all_below}
use Rattle.interface.specs.Places.{State, Tables, kind_of, greatest, place_table_words, object_table_words, shown}
use Rattle.interface.specs.Boot.{hypervisor}
use Rattle.interface.specs.Damage.{fixed_place, has_pd, null_place, is_resource, live_place, shallow}
use Rattle.place_rules.specs.declared.Extent.{Extent}

-- whether a place keeps the rules of places
unfoldable pub place_keeps : State → ℕ → Bool
place_keeps s p = fixed_place s p && null_place s p && live_place s p && shallow s p

-- the greatest permissions that a capability for a number in a space may have: none where the number is no resource's
abbrev pub greatest_allowed : State → ℕ → ℕ → ℕ
greatest_allowed s space resource = if is_resource s space resource then greatest space (kind_of s resource) else 0

-- a domain is cut into as many parts as a word has values, so that a product that wraps takes whole domains off: these parts, and those of one place, rounded up
abbrev pub whole : ℕ
whole = 2 ^ 32

abbrev pub part : ℕ
part = (whole - 1) / stride + 1

-- how many parts of its domain come before a place
abbrev pub parts_before : ℕ → ℕ
parts_before place = part * place % whole

-- a space, and where it begins and ends in its domain, in such parts
abbrev pub extent_of : ℕ → Extent
extent_of space = record { space = space; from = part * start space; end = part * (start space + selectors space) }

-- whether the words of so many places from one on are all 0
abbrev pub blank : List ℕ → ℕ → ℕ → Bool
blank table first count = all_below (place_words * count) (λ i. eqb (word table (place_words * first + i)) 0)

-- tables of the right lengths, a place of a space, and whether its domain is 0 or has a PD
pub record Around (tables : Tables) (place space : ℕ) (home : Bool) : Type 0 where
  pub places_long : length tables.places ≡ place_table_words
  pub objects_long : length tables.objects ≡ object_table_words
  pub is_place : place < places
  pub in_space : space ≡ space_of place
  pub at_home : home ≡ (eqb (domain_of place) hypervisor || has_pd (shown tables) (domain_of place))
