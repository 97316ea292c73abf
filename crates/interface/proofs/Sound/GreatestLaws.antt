-- Greatest permissions: those of a space are all bits of a width, no capability of the space has another, and what a mask has of them is its remainder.
use Prim.Native.Nat.{ℕ, zero, suc, ◌-◌, ◌%◌, ◌^◌, ◌≤◌, ◌<◌}
use mathlib.Core.Path.{◌≡◌, refl, ◌∙◌}
use mathlib.Core.Bool.{true, false}
use native.Mathlib.Omega.{arith}
use lib.Bits.{and_comm, and_mask}
use lib.Dec.{eqb}
use lib.Pow.{pow_pos}
use borrow.Author.Tests.{eq-eqb}
use Rattle.words.specs.Sizes.{memory, io, space_of, places}
use Rattle.words.specs.Permissions.{delegated, within}
use Rattle.words.proofs.BitLaws.{delegated_ones}
use Rattle.std.specs.Prelude.{if◌then◌else◌}
use Rattle.interface.specs.Places.{State, live, kind_of, greatest, greatest_of, greatest_in}
use Rattle.interface.proofs.Basics.BoolLaws.{cases}
use Rattle.interface.proofs.Sound.Soundness.{Sound}
use Rattle.interface.proofs.Sound.PlaceFacts.{live_facts}

-- how many bits the greatest permissions of a space have
abbrev pub width : ℕ → ℕ
width space = if eqb space memory then 3 else if eqb space io then 1 else 5

-- what holds of the three spaces' greatest permissions and widths holds of every space's
by_space : (P : ℕ → ℕ → Type 0) → P 7 3 → P 1 1 → P 31 5 → (space : ℕ) → P (greatest_in space) (width space)
by_space P m i o space =
    cases (eqb space memory) (λ (e : eqb space memory ≡ true). rw e m)
    (λ (f : eqb space memory ≡ false). cases (eqb space io) (λ (e : eqb space io ≡ true). rw (f, e) i) (λ (g : eqb space io ≡ false). rw (f, g) o))

-- they are all bits of the width, of five at most
pub all_bits : (space : ℕ) → greatest_in space ≡ 2 ^ width space - 1
all_bits = by_space (λ most bits. most ≡ 2 ^ bits - 1) refl refl refl

pub five_bits : (space : ℕ) → greatest_in space < 2 ^ 5
five_bits = by_space (λ most bits. most < 2 ^ 5) (omega arith) (omega arith) (omega arith)

-- the mask with all five bits has some of them
pub whole_some : (space : ℕ) → eqb (delegated (greatest_in space) 31) 0 ≡ false
whole_some = by_space (λ most bits. eqb (delegated most 31) 0 ≡ false) refl refl refl

-- and what any mask has of them is its remainder
pub masked_low : (space mask : ℕ) → delegated (greatest_in space) mask ≡ mask % 2 ^ width space
masked_low space mask = and_comm (greatest_in space) mask ∙ rw (all_bits space) (and_mask mask (width space))

-- no kind of object has more than a PD
kind_most : (kind : ℕ) → greatest_of kind ≤ 31
kind_most zero = omega arith
kind_most (suc zero) = omega arith
kind_most (suc (suc zero)) = omega arith
kind_most (suc (suc (suc zero))) = omega arith
kind_most (suc (suc (suc (suc zero)))) = omega arith
kind_most (suc (suc (suc (suc (suc zero))))) = omega arith
kind_most (suc (suc (suc (suc (suc (suc kind)))))) = omega arith

greatest_most : (space kind : ℕ) → greatest space kind ≤ greatest_in space
greatest_most space kind =
    cases (eqb space memory) (λ (m : eqb space memory ≡ true). rw m (omega arith))
    (λ (m : eqb space memory ≡ false).
    cases (eqb space io) (λ (i : eqb space io ≡ true). rw (m, i) (omega arith)) (λ (i : eqb space io ≡ false). rw (m, i) (kind_most kind)))

-- a live place of a sound state has none but these
module _ (s : State) (p : ℕ) (sound : Sound s) (small : p < places) (alive : live (s.caps p) ≡ true) where
  pub permissions_most : (s.caps p).permissions ≤ greatest_in (space_of p)
  permissions_most =
      omega (arith, (live_facts s p (sound.lives p small) alive).bounded, greatest_most (space_of p) (kind_of s (s.caps p).resource))

  pub permissions_within : within (s.caps p).permissions (greatest_in (space_of p)) ≡ true
  permissions_within =
      let permissions = (s.caps p).permissions in
      let most = 2 ^ width (space_of p) - 1 in
      let few : permissions < 2 ^ width (space_of p) = omega (arith, permissions_most, all_bits (space_of p), pow_pos (width (space_of p))) in
      rw (all_bits (space_of p)) (eq-eqb (delegated permissions most) permissions (delegated_ones (width (space_of p)) permissions few))
