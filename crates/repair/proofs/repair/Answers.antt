-- Tables that repair would leave damaged are refused.
use mathlib.Core.Bool.{not}
use mathlib.Core.Path.{ap}
use Rattle.repair.proofs.MendLaws.{repair_refused, fits_places, fits_objects, repair_done}
use Rattle.repair.proofs.repair.Goals as goal

pub returns-then-not-is_mendable : goal.returns-then-not-is_mendable
returns-then-not-is_mendable c = repair_refused _ _ _ c.is_mendable.ensures (ap not c.if-not-is_mendable.true)

pub mend-requires : goal.mend-requires
mend-requires c =
    let answer = c.is_mendable.ensures in
    (fits_places _ _ _ answer (ap not c.if-not-is_mendable.false), fits_objects _ _ _ answer (ap not c.if-not-is_mendable.false))

pub returns : goal.returns
returns c =
    repair_done _ _ _ c.is_mendable.ensures (ap not c.if-not-is_mendable.false) _ _ c.mend.ensures
