-- Effects: all that a call can do to the tables, as steps that a call's rule lists and that are taken in turn.
use Rattle.std.specs.Prelude.{ℕ, zero, suc, ◌+◌, Bool, not, ◌&&◌, ◌||◌, List, [], ◌∷◌, eqb, leb, ltb, if◌then◌else◌}
use Rattle.words.specs.Sizes.{greatest_depth}
use Rattle.words.specs.Permissions.{delegated, revoked}
use Rattle.interface.specs.Basics.{word, put, put_from, any}
use Rattle.interface.specs.Places.{Cap, State, live, nothing, parentless, count_word, kind_of, greatest_of}

-- the steps: delegating one place to another with a mask; storing a new object's words in a record; giving a place a capability for an object, with greatest permissions and
-- no parent; removing a mask's permissions below a range of places, and from the range too if asked; storing words in a record from one of its words on
pub data Effect : Type 0 where
  give : (destination source mask : ℕ) → Effect
  make : (number : ℕ) (words : List ℕ) → Effect
  hold : (place number : ℕ) → Effect
  cut : (mask first size : ℕ) (self : Bool) → Effect
  store : (number from : ℕ) (words : List ℕ) → Effect

-- storing a semaphore's count
abbrev pub count : ℕ → ℕ → Effect
count number value = store number count_word (value ∷ [])

-- a walk along links, each a number plus 1 or 0 for none, of at most `steps` steps: the numbers passed
unfoldable pub chain : ℕ → (ℕ → ℕ) → ℕ → List ℕ
chain zero up link = []
chain (suc steps) up zero = []
chain (suc steps) up (suc next) = next ∷ chain steps up (up next)

-- the strict ancestors of a place, nearest first: the walk goes to the parent, whose depth is one less
unfoldable pub ancestors : (ℕ → Cap) → ℕ → List ℕ
ancestors caps place = chain (caps place).depth (λ q. (caps q).parent) (caps place).parent

-- whether a place is among as many places as `size` says from `first` on
abbrev pub among : ℕ → ℕ → ℕ → Bool
among first size place = leb first place && ltb place (first + size)

-- whether a place is a strict descendant of a place among those
unfoldable pub below : (ℕ → Cap) → ℕ → ℕ → ℕ → Bool
below caps first size place = any (among first size) (ancestors caps place)

-- whether delegation fills a destination from a source: the source is live and not at the greatest depth, the destination is null, and the source's permissions AND the mask
-- is not 0
unfoldable pub fills : (ℕ → Cap) → ℕ → ℕ → ℕ → Bool
fills caps destination source mask =
    live (caps source) && ltb (caps source).depth greatest_depth && not (live (caps destination)) && not (eqb (delegated (caps source).permissions mask) 0)

-- what delegation fills a destination with: the source's resource, its permissions that the mask has, the source as parent, a depth one more
abbrev pub handed : Cap → ℕ → ℕ → Cap
handed cap source mask =
    record { resource = cap.resource; permissions = delegated cap.permissions mask; parent = source + 1; depth = cap.depth + 1 }

-- what delegation leaves at each place
abbrev pub given_caps : (ℕ → Cap) → ℕ → ℕ → ℕ → (ℕ → Cap)
given_caps caps destination source mask = if fills caps destination source mask then put caps destination (handed (caps source) source mask) else caps

-- a capability without a mask's permissions: null, where none is left
unfoldable pub stripped : ℕ → Cap → Cap
stripped mask cap =
    if eqb (revoked cap.permissions mask) 0 then nothing
    else record { resource = cap.resource; permissions = revoked cap.permissions mask; parent = cap.parent; depth = cap.depth }

-- what revocation leaves at each place
unfoldable pub cut_caps : ℕ → ℕ → ℕ → Bool → (ℕ → Cap) → (ℕ → Cap)
cut_caps mask first size self caps place =
    if below caps first size place || (self && among first size place) then stripped mask (caps place) else caps place

-- what a step makes of a state
unfoldable pub act : Effect → State → State
act (give destination source mask) s = record { caps = given_caps s.caps destination source mask; objects = s.objects }
act (make number words) s = record { caps = s.caps; objects = put s.objects number (word words) }
act (hold place number) s = record { caps = put s.caps place (parentless number (greatest_of (kind_of s number))); objects = s.objects }
act (cut mask first size self) s = record { caps = cut_caps mask first size self s.caps; objects = s.objects }
act (store number from words) s = record { caps = s.caps; objects = put s.objects number (put_from (s.objects number) from words) }

-- what steps in turn make of a state
unfoldable pub run : List Effect → State → State
run [] s = s
run (effect ∷ effects) s = run effects (act effect s)

-- how many places a step fills by delegation, and how many steps in turn do
unfoldable pub fills_one : Effect → State → ℕ
fills_one (give destination source mask) s = if fills s.caps destination source mask then 1 else 0
fills_one (make number words) s = 0
fills_one (hold place number) s = 0
fills_one (cut mask first size self) s = 0
fills_one (store number from words) s = 0

unfoldable pub filled : List Effect → State → ℕ
filled [] s = 0
filled (effect ∷ effects) s = fills_one effect s + filled effects (act effect s)
