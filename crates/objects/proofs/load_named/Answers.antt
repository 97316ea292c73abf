-- The word is that of the record that the resource names, and there is none past the records.
use mathlib.Core.Path.{sym, ap, ◌∙◌}
use native.Mathlib.Omega.{arith}
use Rattle.layout.proofs.NumberLaws.{numbered_inside, numbered_past}
use Rattle.interface.specs.Places.{object_at}
use Rattle.objects.proofs.RecordTableLaws.{object_at_end}
use Rattle.objects.proofs.load_named.Goals as goal

pub returns-in_default : goal.returns-in_default
returns-in_default c =
    let past = numbered_past _ (sym c.found.ensures ∙ c.in_default.is) in
    sym ((object_at_end _ (omega arith)).records_end _ _ past)

pub load-requires : goal.load-requires
load-requires c =
    let inside = numbered_inside _ _ (sym c.found.ensures ∙ c.in-Some.is) in
    (c.requires.0, omega arith, omega arith)

pub returns : goal.returns
returns c =
    let given = c.args in
    let inside = numbered_inside _ _ (sym c.found.ensures ∙ c.in-Some.is) in
    c.load.ensures ∙ ap (λ (number : _). object_at given.table.now number given.index) inside.0
