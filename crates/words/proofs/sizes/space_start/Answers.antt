-- The tests tell which of the three spaces it is, and its start computes.
use mathlib.Core.Path.{◌≡◌}
use native.Mathlib.Omega.{arith}
use Rattle.words.specs.Sizes.{memory, io, object}
use Rattle.words.proofs.sizes.space_start.Goals as goal

pub returns-then-space-eq-MEMORY : goal.returns-then-space-eq-MEMORY
returns-then-space-eq-MEMORY c = let first : c.args.space ≡ memory = omega arith in rw first

pub returns-then-space-eq-IO : goal.returns-then-space-eq-IO
returns-then-space-eq-IO c = let second : c.args.space ≡ io = omega arith in rw second

pub returns : goal.returns
returns c = let third : c.args.space ≡ object = omega arith in rw third
