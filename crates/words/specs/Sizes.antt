-- The sizes of the layout, under the names by which the other definitions cite them: each number is said once, and what follows from others is computed.
use Rattle.std.specs.Prelude.{ℕ, zero, suc, ◌+◌, ◌-◌, ◌*◌, ◌/◌, ◌%◌, ◌^◌, ◌<◌, ◌≡◌, cond, eqb, ltb}

-- domains are numbered from 0: the hypervisor's is 0, the root's 1
abbrev pub domains : ℕ
domains = 8

-- the spaces of a domain
abbrev pub memory : ℕ
memory = 0

abbrev pub io : ℕ
io = 1

abbrev pub object : ℕ
object = 2

abbrev pub spaces : ℕ
spaces = 3

-- the order of the range that is the whole object space, and of the one that is the whole memory space or I/O space
abbrev pub object_order : ℕ
object_order = 8

abbrev pub page_order : ℕ
page_order = 6

-- the order of the range that is a whole space: the greatest that a range there may have
abbrev pub greatest_order : ℕ → ℕ
greatest_order space = cond (eqb space object) object_order page_order

-- the number of selectors of a space: as many pages and ports, for the memory and the I/O space; object selectors and event bases wrap at that of the object space
abbrev pub selectors : ℕ → ℕ
selectors space = 2 ^ greatest_order space

-- where a space begins among the places of its domain
abbrev pub start : ℕ → ℕ
start zero = 0
start (suc space) = start space + selectors space

-- the number of places of a domain
abbrev pub stride : ℕ
stride = start spaces

-- the number of places
abbrev pub places : ℕ
places = domains * stride

-- place: a domain, a space and a selector as one number
abbrev pub place_of : ℕ → ℕ → ℕ → ℕ
place_of domain space selector = domain * stride + start space + selector

-- the domain of a place
abbrev pub domain_of : ℕ → ℕ
domain_of place = place / stride

-- the space of a place
unfoldable pub space_of : ℕ → ℕ
space_of place = cond (ltb (place % stride) (start io)) memory (cond (ltb (place % stride) (start object)) io object)

-- the selector of a place
abbrev pub selector_of : ℕ → ℕ
selector_of place = place % stride - start (space_of place)

-- a place is this many words
abbrev pub place_words : ℕ
place_words = 4

-- the number of object records, and of words in each
abbrev pub records : ℕ
records = 64

abbrev pub record_words : ℕ
record_words = 5

-- no depth exceeds this, and a place that has it is not delegated on
abbrev pub greatest_depth : ℕ
greatest_depth = 63

-- a message block is this many words
abbrev pub block_words : ℕ
block_words = 64

-- The place fact: a domain, a space and a selector of it make a place, from which each is read back, and every place is made so
pub record PlaceFact : Type 0 where
  pub is_place : (domain space selector : ℕ) → domain < domains → space < spaces → selector < selectors space → place_of domain space selector < places
  pub domain_back : (domain space selector : ℕ) → space < spaces → selector < selectors space → domain_of (place_of domain space selector) ≡ domain
  pub space_back : (domain space selector : ℕ) → space < spaces → selector < selectors space → space_of (place_of domain space selector) ≡ space
  pub selector_back : (domain space selector : ℕ) → space < spaces → selector < selectors space → selector_of (place_of domain space selector) ≡ selector
  pub made_so : (place : ℕ) → place_of (domain_of place) (space_of place) (selector_of place) ≡ place
  pub space_small : (place : ℕ) → space_of place < spaces
  pub selector_small : (place : ℕ) → selector_of place < selectors (space_of place)
  pub domain_small : (place : ℕ) → place < places → domain_of place < domains
