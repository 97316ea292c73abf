-- Each way out of the checks is a law's, by the tests on the way.
use Rattle.std.specs.Prelude.{Result, Err}
use Rattle.std.proofs.lemmas.Result.{err_from_is_err_and}
use mathlib.Core.Path.{◌≡◌, ◌∙◌}
use borrow.Author.Rules.{rules}
use Rattle.reply.specs.declared.Refusal.{Refusal}
use Rattle.reply.specs.declared.Refusal.TheVariants.{NoRoom}
use Rattle.layout.specs.declared.ObjectNumber.{ObjectNumber}
use Rattle.interface.specs.Places.{view}
use Rattle.interface.specs.Creations.{free_record}
use Rattle.creation_rule.specs.CreationRule.{Says}
use Rattle.creation_rule.proofs.CheckLaws.{own_checks, last_check, new_live, not_by_pd, goes_on, not_bindable, not_on_cpu, not_good, goes_last, no_record, no_domain, has_room}
use Rattle.creation_rule.proofs.check.Goals as goal
use Rattle.creation_rule.proofs.check.Goals.{Else-not-is_permitted, Else-not-new-3}

-- past both capabilities the rule goes on to its own checks
past_pd : (c : Else-not-is_permitted) →
    let args = c.args in
    let s = view args.places.now args.objects.now in
    Says s args.domain args.selector args.pd args.new (own_checks s args.domain args.selector args.new)
past_pd c = search (goes_on, rules)

-- past these it goes on to the last
past_own : (c : Else-not-new-3) →
    let args = c.args in
    let s = view args.places.now args.objects.now in
    Says s args.domain args.selector args.pd args.new (last_check s args.domain args.selector args.new)
past_own c =
    goes_last (past_pd (goal.at.Else-not-new-3 c).Else-not-is_permitted) c.if-not-new.false c.if-not-new-2.false c.if-not-new-3.false

pub returns-then-is_live : goal.returns-then-is_live
returns-then-is_live c = search (new_live, rules)

pub returns-then-not-is_permitted : goal.returns-then-not-is_permitted
returns-then-not-is_permitted c = search (not_by_pd, rules)

pub returns-then-not-new : goal.returns-then-not-new
returns-then-not-new c = not_bindable (past_pd (goal.at.returns-then-not-new c).Else-not-is_permitted) c.if-not-new.true

pub returns-then-not-new-2 : goal.returns-then-not-new-2
returns-then-not-new-2 c = not_on_cpu (past_pd (goal.at.returns-then-not-new-2 c).Else-not-is_permitted) c.if-not-new.false c.if-not-new-2.true

pub returns-then-not-new-3 : goal.returns-then-not-new-3
returns-then-not-new-3 c =
    not_good (past_pd (goal.at.returns-then-not-new-3 c).Else-not-is_permitted) c.if-not-new.false c.if-not-new-2.false c.if-not-new-3.true

pub free_record-requires : goal.free_record-requires
free_record-requires c =
    c.requires.1

pub returns-in_err-number : goal.returns-in_err-number
unfolding free_record
returns-in_err-number c =
    let none = c.in_err-number.ensures.ok_part in
    let given = err_from_is_err_and c.from_residual.result c.from_residual.ensures.1 in
    let refused : ◌≡◌ {A = Result ObjectNumber Refusal} (Err c.in_err-number.field-0.0) (Err NoRoom) = c.in_err-number.ensures.value ∙ rw none in
    let same : c.in_err-number.field-0.0 ≡ NoRoom = cc in
    rw (given.1, given.2, same) (no_record (past_own (goal.at.returns-in_err-number c).Else-not-new-3) c.free_record.ensures none)

pub returns-then-not-new-4 : goal.returns-then-not-new-4
unfolding free_record
returns-then-not-new-4 c =
    no_domain (past_own (goal.at.returns-then-not-new-4 c).Else-not-new-3) c.free_record.ensures c.in_ok-number.ensures.ok_part c.if-not-new-4.true

pub returns : goal.returns
unfolding free_record
returns c =
    has_room (past_own (goal.at.returns c).Else-not-new-3) c.free_record.ensures c.in_ok-number.ensures.ok_part c.if-not-new-3.false c.if-not-new-4.false
