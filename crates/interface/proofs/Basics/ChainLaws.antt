-- Laws of walks along links that fall.
use Prim.Native.Nat.{ℕ, zero, suc, ◌≤◌, ◌<◌}
use mathlib.Core.Path.{◌≡◌, refl, sym, ap}
use mathlib.Core.Bool.{Bool, false}
use mathlib.Core.List.{List, [], ◌∷◌}
use native.Mathlib.Omega.{arith}
use Rattle.interface.specs.Basics.{any}
use Rattle.interface.specs.Effects.{chain}

-- links that fall: each is at most the number that it stands at
abbrev pub Falls : (ℕ → ℕ) → ℕ → Type 0
Falls up bound = (j : ℕ) → j < bound → up j ≤ j

-- a walk from no link
pub chain_none : (steps : ℕ) (up : ℕ → ℕ) → chain steps up 0 ≡ []
unfolding chain
chain_none zero up = refl
chain_none (suc steps) up = refl

-- a walk does not look at links past its start
pub chain_same : (bound steps : ℕ) (up other : ℕ → ℕ) → Falls up bound → ((j : ℕ) → j < bound → up j ≡ other j) → (link : ℕ) → link ≤ bound →
    chain steps up link ≡ chain steps other link
unfolding chain
chain_same bound zero up other falls same link h = refl
chain_same bound (suc steps) up other falls same zero h = refl
chain_same bound (suc steps) up other falls same (suc j) h =
    let rest : chain steps up (up j) ≡ chain steps other (up j) = chain_same bound steps up other falls same (up j) (omega (arith, falls j (omega arith))) in
    rw (← (same j (omega arith)), rest)

-- a walk has no more steps than its start says
pub chain_enough : (bound steps more : ℕ) (up : ℕ → ℕ) → Falls up bound → (link : ℕ) → link ≤ bound → link ≤ steps → link ≤ more →
    chain steps up link ≡ chain more up link
unfolding chain
chain_enough bound zero more up falls zero h s m = sym (chain_none more up)
chain_enough bound zero more up falls (suc j) h s m = absurd (omega arith)
chain_enough bound (suc steps) zero up falls zero h s m = refl
chain_enough bound (suc steps) zero up falls (suc j) h s m = absurd (omega arith)
chain_enough bound (suc steps) (suc more) up falls zero h s m = refl
chain_enough bound (suc steps) (suc more) up falls (suc j) h s m =
    let f : up j ≤ j = falls j (omega arith) in
    ap (λ (l : List ℕ). j ∷ l) (chain_enough bound steps more up falls (up j) (omega arith) (omega arith) (omega arith))

-- a walk from a link: the number there, then the walk from there
pub chain_step : (bound steps : ℕ) (up : ℕ → ℕ) → Falls up bound → (j : ℕ) → j < bound → j < steps → chain steps up (suc j) ≡ j ∷ chain j up (up j)
unfolding chain
chain_step bound zero up falls j b s = absurd (omega arith)
chain_step bound (suc steps) up falls j b s =
    let f : up j ≤ j = falls j b in
    ap (λ (l : List ℕ). j ∷ l) (chain_enough bound steps j up falls (up j) (omega arith) (omega arith) f)

-- a test of some member does not hold where it holds of none below the start
pub chain_any_none : (bound steps : ℕ) (up : ℕ → ℕ) (test : ℕ → Bool) → Falls up bound → (link : ℕ) → link ≤ bound → ((j : ℕ) → j < link → test j ≡ false) →
    any test (chain steps up link) ≡ false
unfolding chain any
chain_any_none bound zero up test falls link h none = refl
chain_any_none bound (suc steps) up test falls zero h none = refl
chain_any_none bound (suc steps) up test falls (suc j) h none =
    let f : up j ≤ j = falls j (omega arith) in
    rw (none j (omega arith)) (chain_any_none bound steps up test falls (up j) (omega arith) (λ i l. none i (omega arith)))

-- tests that agree, agree on the members of a list
pub any_same : {A : Type 0} (test other : A → Bool) → ((a : A) → test a ≡ other a) → (list : List A) → any test list ≡ any other list
unfolding any
any_same test other h [] = refl
any_same test other h (a ∷ list) = rw (h a, any_same test other h list)
