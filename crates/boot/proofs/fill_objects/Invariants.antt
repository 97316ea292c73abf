-- The records below the loop's number have their words of boot.
use Prim.Native.Nat.{◌-◌}
use Rattle.words.specs.Sizes.{records}
use Rattle.boot.proofs.FillingLaws.{RecordsBelow}
use Rattle.boot.proofs.fill_objects.Given as goal

abbrev pub invariant-loop-number : goal.invariant-loop-number
invariant-loop-number l = RecordsBelow l.number l.table

abbrev pub decreases-loop-number : goal.decreases-loop-number
decreases-loop-number l = records - l.number
