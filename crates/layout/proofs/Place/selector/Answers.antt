-- A place's space begins at or before it among the places of its domain.
use native.Mathlib.Omega.{arith}
use Rattle.words.proofs.PlaceLaws.{space_small, made_so}
use Rattle.layout.proofs.Place.selector.Goals as goal

pub space_start-requires : goal.space_start-requires
space_start-requires c = rw c.space.ensures (space_small c.args.self.0)

pub overflow_sub-result : goal.overflow_sub-result
overflow_sub-result c = rw (c.space_start.ensures, c.space.ensures) (omega (arith, made_so c.args.self.0))

pub returns : goal.returns
returns c = rw (c.space_start.ensures, c.space.ensures)
