-- Each hypercall comes to what its rule says.
use mathlib.Core.Path.{refl, ap}
use native.Mathlib.Omega.{arith}
use Rattle.interface.specs.Verdicts.{Call}
use Rattle.interface.specs.PortalCalls.{portal_call}
use Rattle.interface.specs.Creations.{create_pd, create_ec, create_sc, create_pt, create_sm}
use Rattle.interface.specs.Revoke.{revoke}
use Rattle.interface.specs.Lookup.{lookup}
use Rattle.interface.specs.Semaphores.{sm_ctrl}
use Rattle.service.specs.Admission.{number_of}
use Rattle.service.specs.Serving.{call_with}
use Rattle.service.proofs.AdmissionLaws.{ran_outcome, kept_outcome}
use Rattle.service.proofs.RuleLaws.{is_call, is_create_pd, is_create_ec, is_create_sc, is_create_pt, is_create_sm, is_revoke, is_lookup, is_sm_ctrl, lookup_runs}
use Rattle.service.proofs.dispatch.Goals as goal
use Rattle.service.proofs.dispatch.Goals.{Start}

-- the call that the arguments make
abbrev call_by : Start → Call
call_by c = let given = c.args in call_with (number_of given.hypercall) given.caller.0 given.words given.source.now given.target.now

pub returns-in-Call : goal.returns-in-Call
returns-in-Call c =
    let call = call_by (goal.at.returns-in-Call c).Start in
    let same = ap number_of c.in-Call.is in
    let carried = c.call.ensures call refl refl refl refl in
    ran_outcome _ _ call portal_call (is_call _ same) c.requires _ _ _ _ carried.runs carried.gives

pub returns-in-CreatePd : goal.returns-in-CreatePd
returns-in-CreatePd c =
    let call = call_by (goal.at.returns-in-CreatePd c).Start in
    let same = ap number_of c.in-CreatePd.is in
    kept_outcome _ _ call create_pd (is_create_pd _ same) c.requires (λ z. omega arith) _ _ _
    (c.create_pd.ensures call refl refl refl refl)

pub returns-in-CreateEc : goal.returns-in-CreateEc
returns-in-CreateEc c =
    let call = call_by (goal.at.returns-in-CreateEc c).Start in
    let same = ap number_of c.in-CreateEc.is in
    kept_outcome _ _ call create_ec (is_create_ec _ same) c.requires (λ z. omega arith) _ _ _
    (c.create_ec.ensures call refl refl refl refl refl)

pub returns-in-CreateSc : goal.returns-in-CreateSc
returns-in-CreateSc c =
    let call = call_by (goal.at.returns-in-CreateSc c).Start in
    let same = ap number_of c.in-CreateSc.is in
    kept_outcome _ _ call create_sc (is_create_sc _ same) c.requires (λ z. omega arith) _ _ _
    (c.create_sc.ensures call refl refl refl refl refl)

pub returns-in-CreatePt : goal.returns-in-CreatePt
returns-in-CreatePt c =
    let call = call_by (goal.at.returns-in-CreatePt c).Start in
    let same = ap number_of c.in-CreatePt.is in
    kept_outcome _ _ call create_pt (is_create_pt _ same) c.requires (λ z. omega arith) _ _ _
    (c.create_pt.ensures call refl refl refl refl refl refl refl)

pub returns-in-CreateSm : goal.returns-in-CreateSm
returns-in-CreateSm c =
    let call = call_by (goal.at.returns-in-CreateSm c).Start in
    let same = ap number_of c.in-CreateSm.is in
    kept_outcome _ _ call create_sm (is_create_sm _ same) c.requires (λ z. omega arith) _ _ _
    (c.create_sm.ensures call refl refl refl refl)

pub returns-in-Revoke : goal.returns-in-Revoke
returns-in-Revoke c =
    let call = call_by (goal.at.returns-in-Revoke c).Start in
    let same = ap number_of c.in-Revoke.is in
    kept_outcome _ _ call revoke (is_revoke _ same) c.requires (λ z. omega arith) _ _ _
    (c.revoke.ensures call refl refl refl)

pub returns-in-Lookup : goal.returns-in-Lookup
returns-in-Lookup c =
    let call = call_by (goal.at.returns-in-Lookup c).Start in
    let same = ap number_of c.in-Lookup.is in
    let runs = lookup_runs _ _ _ call _ c.requires (c.look_up.ensures call refl refl) in
    kept_outcome _ _ call lookup (is_lookup _ same) c.requires (λ z. omega arith) _ _ _ runs

pub returns-in-SmCtrl : goal.returns-in-SmCtrl
returns-in-SmCtrl c =
    let call = call_by (goal.at.returns-in-SmCtrl c).Start in
    let same = ap number_of c.in-SmCtrl.is in
    kept_outcome _ _ call sm_ctrl (is_sm_ctrl _ same) c.requires (λ z. omega arith) _ _ _
    (c.sm_ctrl.ensures call refl refl refl)
