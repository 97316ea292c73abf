-- Who is admitted is decided by the call's number, the caller's number and the kind of its record.
use Rattle.std.specs.Prelude.{Result, Err}
use Rattle.std.proofs.lemmas.Result.{err_from_is_err_and}
use mathlib.Core.Path.{◌≡◌, sym, ◌∙◌}
use Rattle.reply.specs.declared.Refusal.{Refusal}
use Rattle.reply.specs.declared.Refusal.TheVariants.{BadCaller}
use Rattle.layout.specs.declared.ObjectNumber.{ObjectNumber}
use native.Mathlib.Omega.{arith}
use borrow.Author.Rules.{rules}
use Rattle.service.proofs.AdmissionLaws.{beyond_no_ec, other_no_ec, found_ec, admits_none, admits_no_ec, admits_ec, objects_lengths, numbered_small}
use Rattle.service.proofs.admit.Goals as goal

pub returns-in_default : goal.returns-in_default
returns-in_default c = admits_none _ _ _ _ _ c.try_from.ensures c.in_default.not-Ok

pub returns-in_err-found : goal.returns-in_err-found
returns-in_err-found c =
    let none = c.in_err-found.ensures.ok_part in
    let given = err_from_is_err_and c.from_residual.result c.from_residual.ensures.1 in
    let refused : ◌≡◌ {A = Result ObjectNumber Refusal} (Err c.in_err-found.field-0.0) (Err BadCaller) = c.in_err-found.ensures.value ∙ rw none in
    let same : c.in_err-found.field-0.0 ≡ BadCaller = cc in
    rw (given.1, given.2, same)
    (admits_no_ec _ _ _ _ _ c.try_from.ensures _ c.in-Ok.is (beyond_no_ec _ c.args.objects.now _ (sym c.found.ensures ∙ none)))

pub load-requires : goal.load-requires
load-requires c = (
  search (objects_lengths, rules),
  numbered_small _ _ (sym c.found.ensures ∙ c.in_ok-found.ensures.ok_part),
  omega arith,
)

pub returns-then-load-ne-EC : goal.returns-then-load-ne-EC
returns-then-load-ne-EC c =
    let found = sym c.found.ensures ∙ c.in_ok-found.ensures.ok_part in
    admits_no_ec _ _ _ _ _ c.try_from.ensures _ c.in-Ok.is (other_no_ec _ c.args.objects.now _ _ _ found c.load.ensures c.if-load-ne-EC.true)

pub returns : goal.returns
returns c =
    let found = sym c.found.ensures ∙ c.in_ok-found.ensures.ok_part in
    admits_ec _ _ _ _ _ c.try_from.ensures _ c.in-Ok.is _ found (found_ec _ c.args.objects.now _ _ _ found c.load.ensures c.if-load-ne-EC.false)
