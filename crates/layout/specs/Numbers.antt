-- What a word names where it stands for a selector, a place, a link to a place, or an object.
use Rattle.std.specs.Prelude.{Option, Some, None, ℕ, zero, suc, ◌+◌, ◌%◌, cond, eqb, ltb}
use Rattle.layout.specs.declared.ObjectNumber.{ObjectNumber}
use Rattle.layout.specs.declared.Place.{Place}
use Rattle.layout.specs.declared.Selector.{Selector}
use Rattle.words.specs.Sizes.{object, selectors, places, records}

-- the selector that a word names in a space, if it names one: object selectors wrap, and a page's or a port's is below the number of selectors of its space
unfoldable pub selected : ℕ → ℕ → Option Selector
selected space word =
    cond (eqb space object) (Some (record { 0 = word % selectors object }))
    (cond (ltb word (selectors space)) (Some (record { 0 = word })) None)

-- the place of a word's number, if there is one
unfoldable pub placed : ℕ → Option Place
placed word = cond (ltb word places) (Some (record { 0 = word })) None

-- the link word that leads to a place: the place plus 1
abbrev pub link_of : ℕ → ℕ
link_of place = place + 1

-- the place that a link word leads to, if it leads to one: 0 leads to none, any other word to the place of the number before it
unfoldable pub linked : ℕ → Option Place
linked zero = None
linked (suc place) = placed place

-- the object number that a word is, if it is one
unfoldable pub numbered : ℕ → Option ObjectNumber
numbered word = cond (ltb word records) (Some (record { 0 = word })) None
