-- Laws of selectors, places, links and object numbers: what each definition gives on each of its ways out, and what that tells a caller.
use Rattle.std.specs.Prelude.{Some, None}
use Prim.Native.Nat.{ℕ, zero, suc, ◌-◌, ◌%◌, ◌≤◌, ◌<◌}
use mathlib.Core.Path.{◌≡◌, refl}
use mathlib.Core.Bool.{Bool, true, false, cond, ◌||◌}
use native.Mathlib.Nat.{mod-eq_of_lt}
use native.Mathlib.Omega.{arith}
use lib.Dec.{ltb, eqb}
use borrow.Author.Tests.{lt-ltb, le-ltb, eq-eqb, ne_eqb, ltb-true, eqb-true, eqb-false, ltb-false}
use Rattle.words.specs.Sizes.{object, selectors, places, records}
use Rattle.words.proofs.SizeLaws.{selectors_few}
use Rattle.layout.specs.declared.Selector.{Selector}
use Rattle.layout.specs.declared.Place.{Place}
use Rattle.layout.specs.declared.ObjectNumber.{ObjectNumber}
use Rattle.layout.specs.Numbers.{selected, placed, link_of, linked, numbered}

pub selected_object : (space word : ℕ) → space ≡ object → selected space word ≡ Some (record { 0 = word % selectors object })
unfolding selected
selected_object space word e = rw (eq-eqb space object e)

pub selected_inside : (space word : ℕ) → (space ≡ object → ⊥) → word < selectors space → selected space word ≡ Some (record { 0 = word })
unfolding selected
selected_inside space word n l = rw (lt-ltb word (selectors space) l, ne_eqb space object n)

pub selected_outside : (space word : ℕ) → (space ≡ object → ⊥) → selectors space ≤ word → selected space word ≡ None
unfolding selected
selected_outside space word n l = rw (le-ltb word (selectors space) l, ne_eqb space object n)

-- a word below the number of a space's selectors names the selector of that number
pub selected_small : (space word : ℕ) → word < selectors space → selected space word ≡ Some (record { 0 = word })
selected_small space word l = go (eqb space object) refl
  where
    go : (wraps : Bool) → eqb space object ≡ wraps → selected space word ≡ Some (record { 0 = word })
    go true e =
        let same : word % selectors object ≡ word = mod-eq_of_lt (omega (arith, selectors_few space)) in
        rw same at (selected_object space word (eqb-true space object e))
    go false e = selected_inside space word (eqb-false space object e) l

pub selected_named : (space word : ℕ) (selector : Selector) → word < selectors space → selected space word ≡ Some selector → selector.0 ≡ word
selected_named space word selector l e = let small = selected_small space word l in cc

pub selected_none : (space word : ℕ) → word < selectors space → selected space word ≡ None → ⊥
selected_none space word l e = let small = selected_small space word l in let never : ◌≡◌ {A = ℕ} 0 1 = cc in omega arith

pub placed_at : (word : ℕ) → word < places → placed word ≡ Some (record { 0 = word })
unfolding placed
placed_at word h = rw (lt-ltb word places h)

pub placed_nowhere : (word : ℕ) → places ≤ word → placed word ≡ None
unfolding placed
placed_nowhere word h = rw (le-ltb word places h)

pub placed_inside : (word : ℕ) (place : Place) → placed word ≡ Some place → (place.0 ≡ word) × (word < places)
unfolding placed
placed_inside word place h = go (ltb word places) refl h
  where
    go : (below : Bool) → ltb word places ≡ below → cond below (Some (record { 0 = word })) None ≡ Some place → (place.0 ≡ word) × (word < places)
    go true e q = (cc, ltb-true word places e)
    go false e q = let never : ◌≡◌ {A = ℕ} 0 1 = cc in omega arith

-- 0 leads nowhere, a word past the places too, and any other to the place before it
linked_none : (word : ℕ) → word ≡ 0 → linked word ≡ None
unfolding linked
linked_none word e = rw e

linked_past : (word : ℕ) → places < word → linked word ≡ None
unfolding linked
linked_past zero l = refl
linked_past (suc place) l = placed_nowhere place (omega arith)

pub linked_at : (word : ℕ) → 0 < word → word ≤ places → linked word ≡ Some (record { 0 = word - 1 })
unfolding linked
linked_at zero some l = absurd (omega arith)
linked_at (suc place) some l = let back : suc place - 1 ≡ place = omega arith in rw back (placed_at place (omega arith))

-- whether a link word leads nowhere, as the code tests it
abbrev leads_nowhere : ℕ → Bool
leads_nowhere word = eqb word 0 || ltb places word

pub linked_nowhere : (word : ℕ) → leads_nowhere word ≡ true → linked word ≡ None
linked_nowhere word t = go (eqb word 0) refl t
  where
    go : (none : Bool) → eqb word 0 ≡ none → (none || ltb places word) ≡ true → linked word ≡ None
    go true e q = linked_none word (eqb-true word 0 e)
    go false e q = linked_past word (ltb-true places word q)

pub linked_some : (word : ℕ) → leads_nowhere word ≡ false → (0 < word) × (word ≤ places)
linked_some word f = go (eqb word 0) refl f
  where
    go : (none : Bool) → eqb word 0 ≡ none → (none || ltb places word) ≡ false → (0 < word) × (word ≤ places)
    go true e q = let never : ◌≡◌ {A = ℕ} 0 1 = cc in omega arith
    go false e q = (omega (arith, eqb-false word 0 e), ltb-false places word q)

-- what a word leads to has it as its link word, and a place's link word leads back to it
pub linked_inside : (word : ℕ) (place : Place) → linked word ≡ Some place → (word ≡ link_of place.0) × (place.0 < places)
unfolding linked
linked_inside zero place e = let never : ◌≡◌ {A = ℕ} 0 1 = cc in omega arith
linked_inside (suc number) place e = let inside = placed_inside number place e in (omega arith, omega arith)

pub linked_out : (word : ℕ) → linked word ≡ None → word ≤ places → word ≡ 0
linked_out word e l = go (eqb word 0) refl
  where
    go : (none : Bool) → eqb word 0 ≡ none → word ≡ 0
    go true t = eqb-true word 0 t
    go false f = let leads = linked_at word (omega (arith, eqb-false word 0 f)) l in let never : ◌≡◌ {A = ℕ} 0 1 = cc in omega arith

pub numbered_so : (word : ℕ) → word < records → numbered word ≡ Some (record { 0 = word })
unfolding numbered
numbered_so word h = rw (lt-ltb word records h)

pub numbered_beyond : (word : ℕ) → records ≤ word → numbered word ≡ None
unfolding numbered
numbered_beyond word h = rw (le-ltb word records h)

pub numbered_past : (word : ℕ) → numbered word ≡ None → records ≤ word
numbered_past word e = go (ltb word records) refl
  where
    go : (below : Bool) → ltb word records ≡ below → records ≤ word
    go true t = let is = numbered_so word (ltb-true word records t) in let never : ◌≡◌ {A = ℕ} 0 1 = cc in omega arith
    go false f = ltb-false word records f

pub numbered_inside : (word : ℕ) (number : ObjectNumber) → numbered word ≡ Some number → (number.0 ≡ word) × (word < records)
unfolding numbered
numbered_inside word number h = go (ltb word records) refl h
  where
    go : (below : Bool) → ltb word records ≡ below → cond below (Some (record { 0 = word })) None ≡ Some number →
        (number.0 ≡ word) × (word < records)
    go true e q = (cc, ltb-true word records e)
    go false e q = let never : ◌≡◌ {A = ℕ} 0 1 = cc in omega arith
