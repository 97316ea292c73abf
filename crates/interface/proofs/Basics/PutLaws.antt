-- Laws of a function changed at one number, and from a number on: its value there, and elsewhere, and what holds of all its values.
use Prim.Native.Nat.{ℕ, suc, ◌+◌, ◌≤◌, ◌<◌}
use mathlib.Core.Path.{◌≡◌, refl, ◌∙◌}
use mathlib.Core.List.{List, [], ◌∷◌}
use native.Mathlib.Omega.{arith}
use lib.Dec.{eqb}
use lib.ListN.{length}
use borrow.Author.Tests.{eq-eqb, ne_eqb}
use Rattle.interface.specs.Basics.{put, put_from}
use Rattle.interface.proofs.Basics.BoolLaws.{either_way}

module _ {A : Type 0} (f : ℕ → A) (number : ℕ) (value : A) where
  pub put_same : put f number value number ≡ value
  unfolding put
  put_same = rw (eq-eqb number number refl)

  pub put_other : (other : ℕ) → (other ≡ number → ⊥) → put f number value other ≡ f other
  unfolding put
  put_other other n = rw (ne_eqb other number n)

  -- what holds of the value and of each old one holds of each new one
  pub put_keeps : (P : A → Type 0) → P value → ((other : ℕ) → P (f other)) → (other : ℕ) → P (put f number value other)
  unfolding put
  put_keeps P p q other = either_way P (eqb other number) value (f other) p (q other)

-- the values before the number, and those past as many as the list has, are the old ones
module _ {A : Type 0} (f : ℕ → A) where
  pub put_from_before : (number : ℕ) (values : List A) (other : ℕ) → other < number → put_from f number values other ≡ f other
  unfolding put_from
  put_from_before number [] other l = refl
  put_from_before number (value ∷ values) other l =
      put_other (put_from f (suc number) values) number value other (λ e. omega arith) ∙ put_from_before (suc number) values other (omega arith)

  pub put_from_past : (number : ℕ) (values : List A) (other : ℕ) → number + length values ≤ other → put_from f number values other ≡ f other
  unfolding put_from
  put_from_past number [] other l = refl
  put_from_past number (value ∷ values) other l =
      put_other (put_from f (suc number) values) number value other (λ e. omega arith) ∙ put_from_past (suc number) values other (omega arith)
