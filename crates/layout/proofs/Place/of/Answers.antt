-- The sum is a place's number, so no part of it leaves a word.
use native.Mathlib.Omega.{arith}
use Rattle.words.specs.Sizes.{spaces}
use Rattle.words.proofs.PlaceLaws.{start_rises}
use Rattle.layout.proofs.Place.of.Goals as goal

pub overflow_add-result : goal.overflow_add-result
overflow_add-result c = omega (arith, start_rises c.args.space spaces c.requires.1)

pub overflow_add-result-2 : goal.overflow_add-result-2
overflow_add-result-2 c = omega (arith, start_rises c.args.space spaces c.requires.1)

pub returns : goal.returns
returns c = omega arith
