-- The records below the loop's number have their words of boot.
use Prim.Native.Nat.{◌-◌}
use borrow.Author.Rules.{rules}
use Rattle.boot.proofs.FillingLaws.{no_records, next_record, all_records}
use Rattle.boot.proofs.fill_objects.Goals as goal

pub loop-number-init : goal.loop-number-init
loop-number-init c = search (no_records, rules)

pub loop-number-preserved : goal.loop-number-preserved
loop-number-preserved c = search (next_record, rules)

pub returns : goal.returns
returns c = search (all_records, rules)
