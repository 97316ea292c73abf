-- Each way out but the last is a part of the tables that repair does not mend; once the lengths and the records are right domain 0 decides.
use mathlib.Core.Bool.{not}
use mathlib.Core.Path.{ap}
use Rattle.interface.proofs.Basics.LoopLaws.{answered_yes}
use Rattle.soundness.proofs.KeepingLaws.{places_right, objects_right, numbered_so, kept_so}
use Rattle.repair.proofs.MendLaws.{mends_sizes_broken, mends_pds_broken, mends_records_broken, mends_decide}
use Rattle.repair.proofs.is_mendable.Goals as goal

pub returns-then-not-are_sized : goal.returns-then-not-are_sized
returns-then-not-are_sized c = mends_sizes_broken _ _ c.are_sized.ensures (ap not c.if-not-are_sized.true)

pub pds_in_turn-requires : goal.pds_in_turn-requires
pds_in_turn-requires c = objects_right _ _ _ c.are_sized.ensures (ap not c.if-not-are_sized.false)

pub returns-in_default : goal.returns-in_default
returns-in_default c = mends_pds_broken _ _ c.pds_in_turn.ensures c.in_default.is

pub records_keep-requires : goal.records_keep-requires
records_keep-requires c =
    numbered_so _ _ _ c.are_sized.ensures (ap not c.if-not-are_sized.false) _ c.pds_in_turn.ensures c.in-Some.is

pub returns-then-not-records_keep : goal.returns-then-not-records_keep
returns-then-not-records_keep c = mends_records_broken _ _ c.records_keep.ensures (ap not c.if-not-records_keep.true)

pub hypervisor_mends-requires : goal.hypervisor_mends-requires
hypervisor_mends-requires c =
    places_right _ _ _ c.are_sized.ensures (ap not c.if-not-are_sized.false)

pub returns : goal.returns
returns c =
    let numbered = numbered_so _ _ _ c.are_sized.ensures (ap not c.if-not-are_sized.false) _ c.pds_in_turn.ensures c.in-Some.is in
    mends_decide _ _ (answered_yes _ _ c.are_sized.ensures (ap not c.if-not-are_sized.false)) (kept_so numbered _ c.records_keep.ensures (ap not c.if-not-records_keep.false))
    c.hypervisor_mends.ensures
