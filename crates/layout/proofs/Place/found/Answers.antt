-- The test is the definition's.
use Prim.Native.Nat.{◌≤◌, ◌<◌}
use native.Mathlib.Omega.{arith}
use Rattle.words.specs.Sizes.{places}
use Rattle.layout.proofs.NumberLaws.{placed_at, placed_nowhere}
use Rattle.layout.proofs.Place.found.Goals as goal

pub returns-then-word-lt-PLACES : goal.returns-then-word-lt-PLACES
returns-then-word-lt-PLACES c = let inside : c.args.word < places = omega arith in rw placed_at

pub returns : goal.returns
returns c = let outside : places ≤ c.args.word = omega arith in rw placed_nowhere
