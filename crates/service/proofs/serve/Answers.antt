-- Who is not admitted is refused, and who is gets what the rule says.
use Rattle.std.proofs.lemmas.Result.{err_from_is_err_and}
use Rattle.interface.specs.Verdicts.{Call}
use Rattle.service.specs.Serving.{call_with}
use Rattle.service.proofs.AdmissionLaws.{served, not_admitted, admitted_number, admitted_caller, admitted_ec}
use Rattle.service.proofs.serve.Goals as goal
use Rattle.service.proofs.serve.Goals.{Start}

-- the call that the arguments make
abbrev call_by : Start → Call
call_by c = let given = c.args in call_with given.number given.caller given.words given.source.now given.target.now

pub dispatch-requires : goal.dispatch-requires
dispatch-requires c = admitted_ec _ _ _ _ c.in_ok-hypercall.ensures c.requires

pub returns-in_err-hypercall : goal.returns-in_err-hypercall
returns-in_err-hypercall c =
    let by = call_by (goal.at.returns-in_err-hypercall c).Start in
    let refused = not_admitted _ _ c.requires by _ c.in_err-hypercall.ensures in
    let given = err_from_is_err_and c.from_residual.result c.from_residual.ensures.1 in
    rw (given.1, given.2) (record { serves = refused; sound_after = (served _ by _ c.requires refused).1 })

pub returns : goal.returns
returns c =
    let admits = c.in_ok-hypercall.ensures in
    let dispatched = rw (admitted_number _ _ _ _ admits, admitted_caller _ _ _ _ admits) at c.dispatch.ensures in
    record { serves = dispatched; sound_after = (served _ _ _ c.requires dispatched).1 }
