-- The test is the definition's.
use Prim.Native.Nat.{◌≤◌, ◌<◌}
use native.Mathlib.Omega.{arith}
use Rattle.words.specs.Sizes.{records}
use Rattle.layout.proofs.NumberLaws.{numbered_so, numbered_beyond}
use Rattle.layout.proofs.ObjectNumber.found.Goals as goal

pub returns-then-word-lt-RECORDS : goal.returns-then-word-lt-RECORDS
returns-then-word-lt-RECORDS c = let inside : c.args.word < records = omega arith in rw numbered_so

pub returns : goal.returns
returns c = let outside : records ≤ c.args.word = omega arith in rw numbered_beyond
