-- A live place is held against boot's, and of a null one boot's is asked whether it was null.
use mathlib.Core.Path.{◌∙◌}
use Rattle.place_rules.proofs.PlaceTests.{equal_same}
use Rattle.repair.proofs.MendLaws.{mends_live, mends_null}
use Rattle.repair.proofs.place_mends.Goals as goal

pub returns-then-is_live : goal.returns-then-is_live
returns-then-is_live c =
    mends_live _ _ _ _ c.load-cap.ensures c.boot_cap-fixed.ensures c.is_live.ensures c.if-is_live.true (c.eq.ensures ∙ equal_same c.load-cap.result c.boot_cap-fixed.result)

pub returns : goal.returns
returns c =
    mends_null _ _ _ _ c.load-cap.ensures c.boot_cap-fixed.ensures c.is_live.ensures c.if-is_live.false c.is_live-2.ensures
