-- Laws of walks along parent links: a walk ends at a place without a parent, and goes on from a parent, whose depth is one less.
use Rattle.std.specs.Prelude.{Option, Some, None, ltb}
use Prim.Native.Nat.{ℕ, suc, ◌-◌, ◌≤◌, ◌<◌}
use mathlib.Core.Path.{◌≡◌, sym, ap, ◌∙◌}
use mathlib.Core.Bool.{Bool, true, false, ◌||◌}
use mathlib.Core.List.{◌∷◌}
use native.Mathlib.Omega.{arith}
use lib.Dec.{eqb}
use borrow.Author.Tests.{eqb-true, eqb-false, ltb-true, ltb-false}
use Rattle.std.specs.Ordering.{is_lt, nat_cmp}
use Rattle.std.proofs.Common.{Less, Equal, Greater}
use Rattle.std.specs.Cmp.{nat_cmp_is}
use Rattle.words.specs.Sizes.{places}
use Rattle.layout.specs.declared.Place.{Place}
use Rattle.layout.specs.Numbers.{link_of, linked}
use Rattle.layout.proofs.NumberLaws.{linked_out, linked_inside}
use Rattle.interface.specs.Basics.{any}
use Rattle.interface.specs.Places.{Cap}
use Rattle.interface.specs.Effects.{ancestors, among, below}
use Rattle.interface.proofs.Basics.BoolLaws.{cases}
use Rattle.interface.proofs.Sound.CutSound.{ancestors_child, ancestors_none}
use Rattle.descent.specs.Walks.{Linked, first_among}

-- places are ordered by their numbers
pub comes_before : (a b : ℕ) → is_lt (nat_cmp a b) ≡ ltb a b
comes_before a b =
    cases (ltb a b) (λ (t : ltb a b ≡ true). ap is_lt (sym (nat_cmp_is a b Less (ltb-true a b t))) ∙ sym t)
    (λ (f : ltb a b ≡ false).
    cases (eqb a b) (λ (t : eqb a b ≡ true). ap is_lt (sym (nat_cmp_is a b Equal (eqb-true a b t))) ∙ sym f)
    (λ (n : eqb a b ≡ false). ap is_lt (sym (nat_cmp_is a b Greater (omega (arith, ltb-false a b f, eqb-false a b n)))) ∙ sym f))

-- what a place holds, and the place that its parent word leads to
module _ {caps : ℕ → Cap} {place : ℕ} {found : (Option Place)} (links : Linked caps) (small : place < places) (is_found : found ≡ linked (caps place).parent) where
  abbrev word : ℕ
  word = (caps place).parent

  word_small : (caps place).parent ≤ places
  word_small =
      cases (eqb word 0) (λ (t : eqb word 0 ≡ true). omega (arith, eqb-true word 0 t))
      (λ (f : eqb word 0 ≡ false).
      let some = eqb-false word 0 f in
      let to : (caps place).parent ≡ suc (word - 1) = omega arith in
      omega (arith, links.parent_place place (word - 1) small to))

  no_parent : found ≡ None → (caps place).parent ≡ 0
  no_parent none = linked_out word (sym is_found ∙ none) word_small

  pub walk_ends : (first size : ℕ) → found ≡ None → 0 ≡ first_among first size (ancestors caps place)
  unfolding first_among
  walk_ends first size none = rw (ancestors_none caps place (no_parent none))

  -- a place without a parent is below none
  pub rootless_below : (first size : ℕ) → found ≡ None → false ≡ below caps first size place
  unfolding below any
  rootless_below first size none = rw (ancestors_none caps place (no_parent none))

  module _ {above : Place} (leads : found ≡ Some above) where
    leads_there : ((caps place).parent ≡ link_of above.0) × (above.0 < places)
    leads_there = linked_inside word above (sym is_found ∙ leads)

    parent_word : (caps place).parent ≡ suc above.0
    parent_word = omega (arith, leads_there.0)

    pub parent_small : above.0 < places
    parent_small = leads_there.1

    -- the depth falls on the way to the parent
    pub walk_shorter : (depth : ℕ) → (caps place).depth ≡ depth → (caps above.0).depth < depth
    walk_shorter depth is_depth = omega (arith, links.parent_depth place above.0 small parent_word)

    walk_on : ancestors caps place ≡ above.0 ∷ ancestors caps above.0
    walk_on = ancestors_child caps place above.0 parent_word (omega (arith, links.parent_depth place above.0 small parent_word))

    module _ (first size : ℕ) {inside : Bool} (is_inside : inside ≡ among first size above.0) where
      pub walk_finds : inside ≡ true → word ≡ first_among first size (ancestors caps place)
      unfolding first_among
      walk_finds t = rw (walk_on, sym is_inside ∙ t) leads_there.0

      pub walk_passes : {r : ℕ} → inside ≡ false → r ≡ first_among first size (ancestors caps above.0) →
          r ≡ first_among first size (ancestors caps place)
      unfolding first_among
      walk_passes f e = rw (walk_on, sym is_inside ∙ f) e

    -- a place is below some places where its parent is among them or below them
    walk_below : (first size : ℕ) → below caps first size place ≡ (among first size above.0 || below caps first size above.0)
    unfolding below any
    walk_below first size = rw walk_on

    module _ (first size : ℕ) {inside : Bool} (is_inside : inside ≡ among first size above.0) where
      pub below_inside : inside ≡ true → true ≡ below caps first size place
      below_inside t = rw (walk_below first size, sym is_inside ∙ t)

      pub below_outside : inside ≡ false → below caps first size above.0 ≡ below caps first size place
      below_outside f = rw (walk_below first size, sym is_inside ∙ f)
