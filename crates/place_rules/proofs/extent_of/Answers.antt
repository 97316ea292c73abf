-- A space ends within its domain.
use native.Mathlib.Omega.{arith}
use Rattle.words.specs.Sizes.{spaces}
use Rattle.words.proofs.PlaceLaws.{start_rises}
use Rattle.place_rules.proofs.extent_of.Goals as goal

pub overflow_add-result : goal.overflow_add-result
overflow_add-result c = omega (arith, start_rises c.args.space spaces c.requires)

pub returns : goal.returns
returns c = rw (c.space_start-start.ensures, c.selectors.ensures)
