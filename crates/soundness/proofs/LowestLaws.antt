-- The lowest number that a test fails of, if it fails of one.
use Prim.Native.Nat.{ℕ, ◌≤◌, ◌<◌}
use mathlib.Core.Path.{◌≡◌}
use mathlib.Core.Bool.{Bool, true, false, not}
use native.Mathlib.Omega.{arith}
use lib.Dec.{ltb}
use borrow.Author.Tests.{ltb-true, ltb-false, lt-ltb, le-ltb}
use Rattle.std.specs.declared.option.Option.{Option}
use Rattle.std.specs.declared.option.Option.TheVariants.{Some, None}
use Rattle.std.specs.Option.{MatchOption}
use Rattle.interface.specs.Basics.{lowest}
use Rattle.interface.proofs.Basics.BoolLaws.{cases}
use Rattle.soundness.specs.RuleNumbers.{lowest_failing, first_failing}

module _ (n : ℕ) (test : ℕ → Bool) where
  -- what a search for it finds
  pub found_failing : (r : Option ℕ) → MatchOption r (lowest n (λ i. not (test i)) ≡ n) (λ i. (i < n) × (lowest n (λ k. not (test k)) ≡ i)) → r ≡ first_failing n test
  unfolding lowest_failing
  found_failing None e = rw (e, le-ltb n n (omega arith))
  found_failing (Some i) (l, e) = rw (e, lt-ltb i n l)

  -- and what it tells
  pub failing_there : (i : ℕ) (r : Option ℕ) → r ≡ first_failing n test → r ≡ Some i → (i < n) × (i ≡ lowest_failing n test)
  failing_there i r asked found =
      cases (ltb (lowest_failing n test) n)
      (λ (t : ltb (lowest_failing n test) n ≡ true).
      let is : r ≡ Some (lowest_failing n test) = rw t at asked in
      let same : i ≡ lowest_failing n test = cc in
      (rw same (ltb-true (lowest_failing n test) n t), same))
      (λ (f : ltb (lowest_failing n test) n ≡ false).
      let is : r ≡ None = rw f at asked in
      let never : ◌≡◌ {A = ℕ} 0 1 = cc in
      absurd (omega arith))

  pub failing_nowhere : (r : Option ℕ) → r ≡ first_failing n test → r ≡ None → n ≤ lowest_failing n test
  failing_nowhere r asked none =
      cases (ltb (lowest_failing n test) n)
      (λ (t : ltb (lowest_failing n test) n ≡ true).
      let is : r ≡ Some (lowest_failing n test) = rw t at asked in
      let never : ◌≡◌ {A = ℕ} 0 1 = cc in
      absurd (omega arith))
      (λ (f : ltb (lowest_failing n test) n ≡ false). ltb-false (lowest_failing n test) n f)
