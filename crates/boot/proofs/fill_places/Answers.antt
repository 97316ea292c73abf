-- The places below the loop's number hold what they do at boot.
use Prim.Native.Nat.{◌-◌}
use borrow.Author.Rules.{rules}
use Rattle.boot.proofs.FillingLaws.{no_places, next_place, all_places}
use Rattle.boot.proofs.fill_places.Goals as goal

pub loop-number-init : goal.loop-number-init
loop-number-init c = search (no_places, rules)

pub loop-number-preserved : goal.loop-number-preserved
loop-number-preserved c = search (next_place, rules)

pub returns : goal.returns
returns c = search (all_places, rules)
