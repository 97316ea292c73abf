-- The loop's invariant: the count is that of the PDs before the record, and each of these keeps the rule.
use mathlib.Core.Path.{refl, sym, ◌∙◌, ap}
use mathlib.Core.Bool.{true, not}
use native.Mathlib.Omega.{arith}
use borrow.Author.Rules.{rules}
use Rattle.words.specs.Sizes.{records}
use Rattle.interface.proofs.Basics.LoopLaws.{all_below_none, all_below_more, all_below_done, all_below_broken}
use Rattle.objects.proofs.CountingLaws.{no_pds, pds_more, pds_same}
use Rattle.record_rules.specs.RecordKeeping.{records_in}
use Rattle.record_rules.proofs.PdLaws.{pds_small, pds_end, out_of_turn}
use Rattle.record_rules.proofs.RecordTests.{pd_not}
use Rattle.record_rules.proofs.RestLaws.{rest_out, rest_in}
use Rattle.record_rules.proofs.pds_in_turn.Goals as goal
use Rattle.record_rules.proofs.pds_in_turn.Goals.{then-kind_of-eq-PD+else-not-pd_keeps, else-kind_of-eq-PD}

pub returns-then-not-rest_is_clear : goal.returns-then-not-rest_is_clear
returns-then-not-rest_is_clear c = rest_out _ _ _ c.rest_is_clear.ensures c.used_records-used.ensures (ap not c.if-not-rest_is_clear.true)

pub loop-at-init : goal.loop-at-init
loop-at-init c = search (no_pds, all_below_none, rules)

pub returns-then-not-pd_keeps : goal.returns-then-not-pd_keeps
returns-then-not-pd_keeps c =
    let used = c.used_records-used in
    out_of_turn _ (sym (all_below_broken _ records _ _ (omega (arith, used.ensures.few)) c.pd_keeps.ensures (ap not c.if-not-pd_keeps.true)))

pub overflow_add-before : goal.overflow_add-before
overflow_add-before c =
    let s = records_in c.args.objects.now in
    omega (arith, pds_small s c.loop-at.at)

pub loop-at-preserved : goal.loop-at-preserved
loop-at-preserved c =
    let kind = c.kind_of.ensures in
    let loop = c.loop-at in
    let s = records_in c.args.objects.now in
    elim c.if-kind_of-eq-PD.branch [
      | then-kind_of-eq-PD+else-not-pd_keeps w ↦ (
        omega arith,
        w.before-is ∙ pds_more s loop.at _ _ kind loop.invariant.1 w.if-kind_of-eq-PD.true,
        all_below_more _ _ _ loop.invariant.2 w.pd_keeps.ensures (ap not w.if-not-pd_keeps.false),
      )
      | else-kind_of-eq-PD w ↦ (
        omega arith,
        w.before-is ∙ pds_same s loop.at _ _ kind loop.invariant.1 w.if-kind_of-eq-PD.false,
        all_below_more _ _ true loop.invariant.2 (pd_not s loop.at _ kind w.if-kind_of-eq-PD.false) refl,
      )
    ]

pub returns : goal.returns
returns c =
    let loop = c.loop-at in
    rest_in _ _ _ c.rest_is_clear.ensures c.used_records-used.ensures _ (ap not c.if-not-rest_is_clear.false)
    (pds_end _ _ loop.at _ (omega arith) (omega arith) loop.invariant.1) (sym (all_below_done _ _ loop.at (omega arith) (omega arith) loop.invariant.2))
