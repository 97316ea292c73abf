-- A line spelled at the start of a part of the buffer that is as long as the longest line is written there.
use borrow.Author.Rules.{rules}
use Rattle.recorded_calls.proofs.LineLaws.{line_added}
use Rattle.recorded_calls.proofs.add_line.Goals as goal

pub returns : goal.returns
returns c = let spelt = c.spell in
    let told = line_added c.args.out.now c.args.at c.args.line c.requires spelt.new.out spelt.result (search rules)
    spelt.ensures.writes spelt.ensures.size spelt.ensures.fits in
    record { wrote = told.0; upper_bound = told.1 }
