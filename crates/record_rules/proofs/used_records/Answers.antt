-- The lowest free record is the first, and where none is free all are used.
use Rattle.record_rules.proofs.RestLaws.{none_free, first_free}
use Rattle.record_rules.proofs.used_records.Goals as goal

pub returns-in_default : goal.returns-in_default
returns-in_default c = none_free _ _ c.free_record.ensures c.in_default.is

pub returns : goal.returns
returns c =
    let found = c.free_record in
    first_free _ _ found.ensures _ _ c.in-Some.is c.number.ensures
