-- The greatest permissions of an object by its kind, and in a space; the words that a kind names.
use Prim.Native.Nat.{ℕ, zero, suc}
use mathlib.Core.Path.{◌≡◌, refl}
use mathlib.Core.List.{[], ◌∷◌}
use borrow.Author.Tests.{ne_eqb}
use Rattle.words.specs.Sizes.{memory, io}
use Rattle.interface.specs.Basics.{word}
use Rattle.interface.specs.Places.{PD, EC, SC, PT, SM, named_words, greatest_of, greatest}

-- a list by kinds has what it begins with for what is of no kind, where it begins with 0
no_kind : (pd ec sc pt sm kind : ℕ) → (kind ≡ PD → ⊥) → (kind ≡ EC → ⊥) → (kind ≡ SC → ⊥) → (kind ≡ PT → ⊥) → (kind ≡ SM → ⊥) →
    0 ≡ word (0 ∷ pd ∷ ec ∷ sc ∷ pt ∷ sm ∷ []) kind
no_kind pd ec sc pt sm zero a b d e f = refl
no_kind pd ec sc pt sm (suc zero) a b d e f = absurd (a refl)
no_kind pd ec sc pt sm (suc (suc zero)) a b d e f = absurd (b refl)
no_kind pd ec sc pt sm (suc (suc (suc zero))) a b d e f = absurd (d refl)
no_kind pd ec sc pt sm (suc (suc (suc (suc zero)))) a b d e f = absurd (e refl)
no_kind pd ec sc pt sm (suc (suc (suc (suc (suc zero))))) a b d e f = absurd (f refl)
no_kind pd ec sc pt sm (suc (suc (suc (suc (suc (suc n)))))) a b d e f = refl

-- so it has no permissions, and names no words
pub no_permissions : (kind : ℕ) → (kind ≡ PD → ⊥) → (kind ≡ EC → ⊥) → (kind ≡ SC → ⊥) → (kind ≡ PT → ⊥) → (kind ≡ SM → ⊥) → 0 ≡ greatest_of kind
no_permissions = no_kind 31 7 1 3 3

pub no_named_words : (kind : ℕ) → (kind ≡ PD → ⊥) → (kind ≡ EC → ⊥) → (kind ≡ SC → ⊥) → (kind ≡ PT → ⊥) → (kind ≡ SM → ⊥) → 0 ≡ named_words kind
no_named_words = no_kind 1 3 3 4 1

module _ (space kind : ℕ) where
  pub greatest_memory : space ≡ memory → 7 ≡ greatest space kind
  greatest_memory e = rw e

  pub greatest_io : space ≡ io → 1 ≡ greatest space kind
  greatest_io e = rw e

  pub greatest_object : (most : ℕ) → (space ≡ memory → ⊥) → (space ≡ io → ⊥) → most ≡ greatest_of kind → most ≡ greatest space kind
  greatest_object most m i h = rw (ne_eqb space memory m, ne_eqb space io i) h
