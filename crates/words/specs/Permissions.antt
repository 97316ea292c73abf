-- Permissions: the set bits of a number. Delegation keeps the bits of a mask, revocation removes them.
use Rattle.std.specs.Prelude.{ℕ, ◌-◌, ◌≡◌, Bool, true, eqb}
use Rattle.std.specs.Int.Bits.{bit_and}
use Rattle.words.specs.Fields.{bits}

-- what delegation with a mask gives of some permissions: those that the mask has
abbrev pub delegated : ℕ → ℕ → ℕ
delegated permissions mask = bit_and permissions mask

-- what revocation with a mask leaves of some permissions: those that the mask has not
abbrev pub revoked : ℕ → ℕ → ℕ
revoked permissions mask = permissions - bit_and permissions mask

-- whether each of the first permissions is among the second
abbrev pub within : ℕ → ℕ → Bool
within permissions others = eqb (bit_and permissions others) permissions

-- whether the permission of a bit's number is among some permissions
abbrev pub permits : ℕ → ℕ → Bool
permits bit permissions = eqb (bits bit bit permissions) 1

-- The permission facts: inclusion is an order; delegation gives the greatest part of the source that is within the mask; revocation leaves the greatest part that has nothing of
-- the mask; and both respect inclusion
pub record PermissionFacts : Type 0 where
  pub within_itself : (a : ℕ) → within a a ≡ true
  pub within_across : (a b c : ℕ) → within a b ≡ true → within b c ≡ true → within a c ≡ true
  pub within_both : (a b : ℕ) → within a b ≡ true → within b a ≡ true → a ≡ b
  pub delegated_within_source : (permissions mask : ℕ) → within (delegated permissions mask) permissions ≡ true
  pub delegated_within_mask : (permissions mask : ℕ) → within (delegated permissions mask) mask ≡ true
  pub delegated_greatest : (a permissions mask : ℕ) → within a permissions ≡ true → within a mask ≡ true → within a (delegated permissions mask) ≡ true
  pub delegated_respects : (a b mask : ℕ) → within a b ≡ true → within (delegated a mask) (delegated b mask) ≡ true
  pub revoked_within : (permissions mask : ℕ) → within (revoked permissions mask) permissions ≡ true
  pub revoked_apart : (permissions mask : ℕ) → delegated (revoked permissions mask) mask ≡ 0
  pub revoked_greatest : (a permissions mask : ℕ) → within a permissions ≡ true → delegated a mask ≡ 0 → within a (revoked permissions mask) ≡ true
  pub revoked_respects : (a b mask : ℕ) → within a b ≡ true → within (revoked a mask) (revoked b mask) ≡ true
