-- Each line's text is the one that its own writing leaves.
use mathlib.Core.Path.{ap}
use Rattle.interface.specs.Journal.{spelled}
use Rattle.journal_lines.proofs.LineLaws.{line_too_long, line_spelled}
use Rattle.journal_lines.specs.Lines.{line_of}
use Rattle.journal_lines.proofs.spell.Goals as goal

pub returns-then-out-lt-LINE_BYTES : goal.returns-then-out-lt-LINE_BYTES
returns-then-out-lt-LINE_BYTES c =
    let told = line_too_long c.args.out.now c.args.line c.if-out-lt-LINE_BYTES.true in
    record { writes = told.0; size = told.1.0; fits = told.1.1 }

pub returns-in-Done : goal.returns-in-Done
returns-in-Done c = let put = c.put_done in
    let start = c.args in
    let told = line_spelled start.out.now start.line put.new.out put.result _ (ap line_of c.in-Done.is) c.if-out-lt-LINE_BYTES.false put.ensures in
    record { writes = told.0; size = told.1.0; fits = told.1.1 }

pub returns-in-Cut : goal.returns-in-Cut
unfolding spelled
returns-in-Cut c = let put = c.put in
    let start = c.args in
    let told = line_spelled start.out.now start.line put.new.out put.result _ (ap line_of c.in-Cut.is) c.if-out-lt-LINE_BYTES.false put.ensures in
    record { writes = told.0; size = told.1.0; fits = told.1.1 }

pub returns-in-Bad : goal.returns-in-Bad
unfolding spelled
returns-in-Bad c = let put = c.put_named in
    let start = c.args in
    let told = line_spelled start.out.now start.line put.new.out put.result _ (ap line_of c.in-Bad.is) c.if-out-lt-LINE_BYTES.false put.ensures in
    record { writes = told.0; size = told.1.0; fits = told.1.1 }

pub returns-in-End : goal.returns-in-End
unfolding spelled
returns-in-End c = let put = c.put_named-in-End in
    let start = c.args in
    let told = line_spelled start.out.now start.line put.new.out put.result _ (ap line_of c.in-End.is) c.if-out-lt-LINE_BYTES.false put.ensures in
    record { writes = told.0; size = told.1.0; fits = told.1.1 }
