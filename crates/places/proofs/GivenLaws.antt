-- Delegating one place: the code's test is the definition's, and each of its ways out leaves what the definition says.
use Prim.Native.Nat.{ℕ, ◌+◌}
use mathlib.Core.Path.{◌≡◌, sym, ◌∙◌}
use mathlib.Core.Bool.{Bool, true, false, not, ◌&&◌}
use mathlib.Core.List.{List}
use native.Mathlib.Omega.{arith}
use lib.Dec.{eqb, ltb}
use mir.Syntax.{w32}
use mir.Val.{Fits}
use borrow.Author.Tests.{ltb-true, not-true, not-false}
use Rattle.words.specs.Sizes.{greatest_depth}
use Rattle.words.specs.Permissions.{delegated}
use Rattle.layout.specs.Numbers.{link_of}
use Rattle.interface.specs.Basics.{put}
use Rattle.interface.specs.Places.{Cap, live, cap_at, cap_table}
use Rattle.interface.specs.Effects.{fills}
use Rattle.interface.proofs.Basics.BoolLaws.{each_of_four}
use Rattle.interface.proofs.Tables.TableLaws.{cap_table_back}
use Rattle.places.specs.Table.{Sized, Given}

-- the code's test: by the source, the permissions that are left, and whether source and destination are live
abbrev passes : Cap → ℕ → Bool → Bool → Bool
passes from left from_live to_live = from_live && ltb from.depth greatest_depth && not to_live && not (eqb left 0)

-- the depth of a source that passes has a next one
pub next_depth_fits : (from : Cap) (left : ℕ) (from_live to_live : Bool) → not (passes from left from_live to_live) ≡ false → Fits w32 (from.depth + 1)
next_depth_fits from left from_live to_live f =
    let each = each_of_four from_live (ltb from.depth greatest_depth) (not to_live) (not (eqb left 0)) (not-false (passes from left from_live to_live) f) in
    omega (arith, ltb-true from.depth greatest_depth each.1)

-- the code's test is the definition's
passes_fills : (table : List ℕ) (destination source mask : ℕ) (from to : Cap) (left : ℕ) (from_live to_live : Bool) → from ≡ cap_at table source →
    to ≡ cap_at table destination → left ≡ delegated from.permissions mask → from_live ≡ live from → to_live ≡ live to →
    passes from left from_live to_live ≡ fills (cap_at table) destination source mask
unfolding fills
passes_fills table destination source mask from to left from_live to_live is_from is_to is_left from_live_lem to_live_lem =
    rw (from_live_lem, to_live_lem, is_left, is_from, is_to)

module _ {table : List ℕ} {destination source mask : ℕ} {from to : Cap} {left : ℕ} {from_live to_live : Bool} (is_from : from ≡ cap_at table source)
    (is_to : to ≡ cap_at table destination) (is_left : left ≡ delegated from.permissions mask) (from_live_lem : from_live ≡ live from)
    (to_live_lem : to_live ≡ live to) where
  -- where the test fails the table stays
  pub given_none : Sized table → not (passes from left from_live to_live) ≡ true → Given table table destination source mask false
  given_none sized t =
      let p = passes_fills table destination source mask from to left from_live to_live is_from is_to is_left from_live_lem to_live_lem in
      let f = sym p ∙ not-true (passes from left from_live to_live) t in
      record { is_filled = sym f; leaves = rw f (sym (cap_table_back table sized)) }

  -- where it passes the destination is put what the source hands on
  pub given_one : {after : List ℕ} {link : ℕ} → link ≡ link_of source → not (passes from left from_live to_live) ≡ false →
      after ≡ cap_table (put (cap_at table) destination (record { resource = from.resource; permissions = left; parent = link; depth = from.depth + 1 })) →
      Given table after destination source mask true
  given_one is_link f e =
      let p = passes_fills table destination source mask from to left from_live to_live is_from is_to is_left from_live_lem to_live_lem in
      let t = sym p ∙ not-false (passes from left from_live to_live) f in
      record { is_filled = sym t; leaves = rw t (rw (is_left, is_from, is_link) at e) }
