-- Each way out is one of the definition's.
use Rattle.std.specs.Prelude.{Err, Result}
use Rattle.std.proofs.lemmas.Result.{err_from_is_err_and}
use mathlib.Core.Bool.{not}
use mathlib.Core.Path.{◌≡◌, ap, ◌∙◌}
use Rattle.reply.specs.declared.Refusal.{Refusal}
use Rattle.reply.specs.declared.Refusal.TheVariants.{BadPar}
use native.Mathlib.Omega.{arith}
use lib.ListN.{length}
use Rattle.layout.specs.declared.Place.{Place}
use Rattle.tree.proofs.CensusLaws.{alone, marked_descendants, counts_beyond, named_small, counts_null, counts_short, counts_all}
use Rattle.tree.proofs.census.Goals as goal

pub returns-in_err-at : goal.returns-in_err-at
returns-in_err-at c =
    let none = c.in_err-at.ensures.ok_part in
    let given = err_from_is_err_and c.from_residual.result c.from_residual.ensures.1 in
    let refused : ◌≡◌ {A = Result Place Refusal} (Err c.in_err-at.field-0.0) (Err BadPar) = c.in_err-at.ensures.value ∙ rw none in
    let same : c.in_err-at.field-0.0 ≡ BadPar = cc in
    rw (given.1, given.2, same) (counts_beyond _ _ _ c.found.ensures none)

pub load-cap-requires : goal.load-cap-requires
load-cap-requires c =
    (c.requires.0, named_small _ c.found.ensures _ c.in_ok-at.ensures.ok_part)

pub returns-then-not-is_live : goal.returns-then-not-is_live
returns-then-not-is_live c =
    counts_null _ _ _ c.found.ensures c.in_ok-at.ensures.ok_part c.load-cap.ensures c.is_live.ensures (ap not c.if-not-is_live.true)

pub invariant_of-mark_below : goal.invariant_of-mark_below
invariant_of-mark_below c = let small = named_small _ c.found.ensures _ c.in_ok-at.ensures.ok_part in record { ends = omega arith }

pub mark_below-requires : goal.mark_below-requires
mark_below-requires c =
    (c.requires.0, c.requires.1, alone _ (named_small _ c.found.ensures _ c.in_ok-at.ensures.ok_part), c.blank-marked.ensures)

pub returns-then-list-count : goal.returns-then-list-count
returns-then-list-count c =
    let descend = marked_descendants _ _ c.mark_below.ensures in
    counts_short _ _ _ c.found.ensures c.in_ok-at.ensures.ok_part c.load-cap.ensures c.is_live.ensures
    (ap not c.if-not-is_live.false) (c.count-count.ensures ∙ ap length descend) c.if-list-count.true

pub list-requires : goal.list-requires
list-requires c =
    omega (arith, c.count-count.ensures)

pub returns : goal.returns
returns c =
    let descend = marked_descendants _ _ c.mark_below.ensures in
    counts_all _ _ _ c.found.ensures c.in_ok-at.ensures.ok_part c.load-cap.ensures c.is_live.ensures
    (ap not c.if-not-is_live.false) (c.count-count.ensures ∙ ap length descend) c.if-list-count.false
    (rw descend at c.list.ensures)
