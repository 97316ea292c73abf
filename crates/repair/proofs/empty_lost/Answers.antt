-- The marks are those that the call before leaves.
use Rattle.std.proofs.Common.{rules}
use Rattle.interface.specs.Places.{nothing}
use Rattle.repair.proofs.empty_lost.Goals as goal

pub returns : goal.returns
returns c = record { marks = c.mark_lost-count.new.lost; lost_marked = c.mark_lost-count.ensures; emptied = c.change_marked.ensures (λ cap. nothing) (λ cap left k. search rules) }
