-- Laws of revocation on the place table: what stripping one place leaves, and that stripping the descendants of a range is its revocation.
use Prim.Native.Nat.{ℕ}
use mathlib.Core.Path.{◌≡◌, sym, ◌∙◌}
use mathlib.Core.Bool.{Bool}
use mathlib.Core.List.{List}
use borrow.Author.Tests.{eq-eqb, ne_eqb}
use Rattle.words.specs.Permissions.{revoked}
use Rattle.interface.specs.Places.{Cap, nothing, cap_at, cap_table}
use Rattle.interface.specs.Effects.{below, stripped, cut_caps}
use Rattle.interface.proofs.History.CutLaws.{stripped_none, stripped_some}
use Rattle.marks.specs.PlaceBits.{bit_at, RangeToo}
use Rattle.places.proofs.CapTableLaws.{cap_table_same}
use Rattle.descent.specs.Walks.{Marked}
use Rattle.tree.specs.Stripping.{stripped_where}

-- what stripping leaves of a capability, by whether a permission is left
module _ (mask : ℕ) (cap : Cap) {left : ℕ} (is_left : left ≡ revoked cap.permissions mask) where
  pub strips_all : left ≡ 0 → nothing ≡ stripped mask cap
  strips_all none = rw (stripped_none mask cap (eq-eqb (revoked cap.permissions mask) 0 (sym is_left ∙ none)))

  pub strips_some : (left ≡ 0 → ⊥) → record { resource = cap.resource; permissions = left; parent = cap.parent; depth = cap.depth } ≡ stripped mask cap
  strips_some some =
      rw (stripped_some mask cap (ne_eqb (revoked cap.permissions mask) 0 (λ (z : revoked cap.permissions mask ≡ 0). some (is_left ∙ z))), is_left)

-- the descendants of a range are marked, and the range too if asked: stripping the marked places is its revocation
pub left_cut : (table : List ℕ) (mask first size : ℕ) (self : Bool) {marks more after : List ℕ} → Marked (below (cap_at table) first size) marks →
    RangeToo self marks first size more → after ≡ cap_table (stripped_where (bit_at more) mask (cap_at table)) → after ≡ cap_table (cut_caps mask first size self (cap_at table))
unfolding stripped_where cut_caps
left_cut table mask first size self {marks} {more} are_marks range e =
    e ∙
    cap_table_same (stripped_where (bit_at more) mask (cap_at table)) (cut_caps mask first size self (cap_at table))
    (λ p l. rw (range.bits p, are_marks.told p l))
