-- Laws of places: a place is read back as the domain, the space and the selector that it is made of.
use Prim.Native.Nat.{ℕ, suc, ◌+◌, ◌%◌, ◌≤◌, ◌<◌, ◌∣◌}
use mathlib.Core.Path.{◌≡◌, refl}
use mathlib.Core.Bool.{Bool, true, false, cond}
use native.Mathlib.Decide.{le_ind}
use native.Mathlib.Nat.{le_refl, le-add_right, le_antisymm, le_of_suc-le-suc, lt_of_not-le, dvd-add, dvd-mod_iff}
use native.Mathlib.Omega.{arith}
use lib.Dec.{ltb}
use borrow.Author.Tests.{ltb-true, ltb-false, lt-ltb, le-ltb}
use Rattle.words.specs.Sizes.{memory, io, object, domains, spaces, selectors, start, stride, places, place_of, domain_of, space_of, selector_of}
use Rattle.words.proofs.RangeLaws.{multiples_apart}

-- a space ends before each later one begins
pub start_rises : (space later : ℕ) → space < later → start space + selectors space ≤ start later
start_rises space later h =
    le_ind (λ (n : ℕ). start space + selectors space ≤ start n) (le_refl (start (suc space))) (λ n l ih. omega arith) later h

-- a space holds what is left of a place once its domain is taken off
record Inside (rest space : ℕ) : Type 0 where
  known : space < spaces
  from : start space ≤ rest
  below : rest < start space + selectors space

-- the two tests of `space_of` find the space that holds it
found : (rest : ℕ) → rest < stride → (a b : Bool) → ltb rest (start io) ≡ a → ltb rest (start object) ≡ b →
    Inside rest (cond a memory (cond b io object))
found rest h true b p q = record { known = omega arith; from = omega arith; below = omega (arith, ltb-true) }
found rest h false true p q = record { known = omega arith; from = omega (arith, ltb-false); below = omega (arith, ltb-true) }
found rest h false false p q = record { known = omega arith; from = omega (arith, ltb-false); below = omega arith }

inside : (place : ℕ) → Inside (place % stride) (space_of place)
unfolding space_of
inside place = found (place % stride) (omega arith) (ltb (place % stride) (start io)) (ltb (place % stride) (start object)) refl refl

-- so a place lies in its space, counted from the first of its domain
pub from_start : (place : ℕ) → start (space_of place) ≤ place % stride
from_start place = (inside place).from

pub before_end : (place : ℕ) → place % stride < start (space_of place) + selectors (space_of place)
before_end place = (inside place).below

-- of two spaces that hold the same, neither is the later one
not_later : (rest space other : ℕ) → Inside rest space → Inside rest other → space ≤ other
not_later rest space other a b =
    le_of_suc-le-suc (lt_of_not-le (λ (l : other < space). omega (arith, start_rises other space l)))

pub is_place : (domain space selector : ℕ) → domain < domains → space < spaces → selector < selectors space → place_of domain space selector < places
is_place domain space selector d h l = omega (arith, start_rises space spaces h)

module _ (domain space selector : ℕ) (h : space < spaces) (l : selector < selectors space) where
  pub domain_back : domain_of (place_of domain space selector) ≡ domain
  domain_back = omega (arith, start_rises space spaces h)

  rest_back : place_of domain space selector % stride ≡ start space + selector
  rest_back = omega (arith, start_rises space spaces h)

  pub space_back : space_of (place_of domain space selector) ≡ space
  space_back =
      let found_inside : Inside (place_of domain space selector % stride) (space_of (place_of domain space selector)) = inside (place_of domain space selector) in
      let made_inside : Inside (place_of domain space selector % stride) space =
      rw rest_back (record { known = h; from = le-add_right (start space) selector; below = omega arith }) in
      le_antisymm (not_later _ _ _ found_inside made_inside) (not_later _ _ _ made_inside found_inside)

  pub selector_back : selector_of (place_of domain space selector) ≡ selector
  selector_back = rw space_back (omega (arith, rest_back))

pub made_so : (place : ℕ) → place_of (domain_of place) (space_of place) (selector_of place) ≡ place
made_so place = omega (arith, (inside place).from)

pub space_small : (place : ℕ) → space_of place < spaces
space_small place = (inside place).known

pub selector_small : (place : ℕ) → selector_of place < selectors (space_of place)
selector_small place = omega (arith, (inside place).from, (inside place).below)

pub domain_small : (place : ℕ) → place < places → domain_of place < domains
domain_small place h = omega arith

-- an aligned run begins before a multiple of its width where any of it does
run_before : (width first offset end : ℕ) → width ∣ first → width ∣ end → offset < width → ltb (first + offset) end ≡ ltb first end
run_before width first offset end a b l = go (ltb first end) refl
  where
    go : (before : Bool) → ltb first end ≡ before → ltb (first + offset) end ≡ before
    go true t = let apart = multiples_apart width a b (ltb-true first end t) in lt-ltb (first + offset) end (omega arith)
    go false f = let past = ltb-false first end f in le-ltb (first + offset) end (omega arith)

-- an aligned run of places lies in one space of one domain, if its width divides the number of selectors of each space
module _ (width first offset : ℕ) (of_pages : width ∣ selectors memory) (of_objects : width ∣ selectors object) (aligned : width ∣ first) (l : offset < width) where
  of_stride : width ∣ stride
  of_stride = dvd-add width (dvd-add width of_pages of_pages) of_objects

  of_rest : width ∣ first % stride
  of_rest = (dvd-mod_iff width of_stride).1 aligned

  rest_ends : first % stride + width ≤ stride
  rest_ends = multiples_apart width of_rest of_stride (omega arith)

  run_rest : (first + offset) % stride ≡ first % stride + offset
  run_rest = omega (arith, rest_ends)

  pub run_domain : domain_of (first + offset) ≡ domain_of first
  run_domain = omega (arith, rest_ends)

  pub run_space : space_of (first + offset) ≡ space_of first
  unfolding space_of
  run_space =
      rw (
        run_rest,
        run_before width (first % stride) offset (start io) of_rest of_pages l,
        run_before width (first % stride) offset (start object) of_rest (dvd-add width of_pages of_pages) l,
      )
