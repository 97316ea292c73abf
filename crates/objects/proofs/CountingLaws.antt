-- The count of the PDs before a record, one record further.
use Prim.Native.Nat.{ℕ, ◌+◌}
use mathlib.Core.Path.{◌≡◌, refl, sym, ◌∙◌}
use lib.Dec.{eqb}
use borrow.Author.Tests.{eq-eqb, ne_eqb}
use Rattle.interface.specs.Basics.{count_below}
use Rattle.interface.specs.Places.{State, PD, kind_of}
use Rattle.interface.specs.Damage.{pds_below}
use Rattle.interface.proofs.Basics.LoopLaws.{count_more, count_same}

pub no_pds : (s : State) → 0 ≡ pds_below s 0
unfolding pds_below count_below
no_pds s = refl

module _ (s : State) (r kind count : ℕ) (known : kind ≡ kind_of s r) (so_far : count ≡ pds_below s r) where
  pub pds_more : kind ≡ PD → count + 1 ≡ pds_below s (r + 1)
  unfolding pds_below
  pds_more e = rw so_far (sym (count_more r (λ q. eqb (kind_of s q) PD) (eq-eqb (kind_of s r) PD (sym known ∙ e))))

  pub pds_same : (kind ≡ PD → ⊥) → count ≡ pds_below s (r + 1)
  unfolding pds_below
  pds_same n = so_far ∙ sym (count_same r (λ q. eqb (kind_of s q) PD) (ne_eqb (kind_of s r) PD (λ e. n (known ∙ e))))
