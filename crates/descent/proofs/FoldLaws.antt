-- A test of the numbers of a range, each looked at: what a fold of its answers comes to.
use Prim.Native.Nat.{ℕ, zero, suc, ◌+◌}
use mathlib.Core.Path.{◌≡◌, refl}
use mathlib.Core.Bool.{Bool, true, ◌&&◌}
use native.Mathlib.Nat.{add-zero}
use native.Mathlib.Omega.{arith}
use Rattle.std.specs.List.{fold, range_with_len}
use Rattle.interface.specs.Basics.{all_below}
use Rattle.interface.proofs.Basics.LoopLaws.{so_far_none, so_far_more}

module _ (test : ℕ → Bool) where
  folded_from : (n from : ℕ) (so_far : Bool) → so_far ≡ all_below from test → fold (λ (holds : Bool) (i : ℕ). holds && test i) so_far (range_with_len from n) ≡ all_below (from + n) test
  folded_from zero from so_far e = rw (add-zero from) e
  folded_from (suc n) from so_far e =
      let next : from + suc n ≡ from + 1 + n = omega arith in
      rw next (folded_from n (from + 1) (so_far && test from) (so_far_more test from (test from) so_far e refl))

  pub folded : (n : ℕ) → fold (λ (holds : Bool) (i : ℕ). holds && test i) true (range_with_len 0 n) ≡ all_below n test
  folded n = let all = folded_from n 0 true (so_far_none test) in let e : 0 + n ≡ n = omega arith in rw e at all
