-- The number is that of the part's words.
use mathlib.Core.Path.{ap}
use mathlib.Core.List.{List}
use Prim.Native.Nat.{ℕ}
use lib.ListN.{length}
use Rattle.abi.proofs.rudozhev_untyped.Goals as goal

pub returns : goal.returns
returns c = ap (λ (l : List ℕ). length l) c.untyped.ensures
