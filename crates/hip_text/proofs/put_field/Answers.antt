-- Each index below ten has its own field, and the last one is left.
use borrow.Author.Rules.{rules}
use Rattle.hip_text.specs.PageText.{header_lines}
use Rattle.hip_text.proofs.LineLaws.{last_field, line_is}
use Rattle.hip_text.proofs.put_field.Goals as goal

pub returns-in-0 : goal.returns-in-0
unfolding header_lines
returns-in-0 c = line_is (header_lines c.args.header) c.args.index 0 c.in-0.is c.put_bits.ensures

pub returns-in-1 : goal.returns-in-1
unfolding header_lines
returns-in-1 c = line_is (header_lines c.args.header) c.args.index 1 c.in-1.is c.put_number.ensures

pub returns-in-2 : goal.returns-in-2
unfolding header_lines
returns-in-2 c = line_is (header_lines c.args.header) c.args.index 2 c.in-2.is c.put_number-in-2.ensures

pub returns-in-3 : goal.returns-in-3
unfolding header_lines
returns-in-3 c = line_is (header_lines c.args.header) c.args.index 3 c.in-3.is c.put_number-in-3.ensures

pub returns-in-4 : goal.returns-in-4
unfolding header_lines
returns-in-4 c = line_is (header_lines c.args.header) c.args.index 4 c.in-4.is c.put_number-in-4.ensures

pub returns-in-5 : goal.returns-in-5
unfolding header_lines
returns-in-5 c = line_is (header_lines c.args.header) c.args.index 5 c.in-5.is c.put_number-in-5.ensures

pub returns-in-6 : goal.returns-in-6
unfolding header_lines
returns-in-6 c = line_is (header_lines c.args.header) c.args.index 6 c.in-6.is c.put_bits-in-6.ensures

pub returns-in-7 : goal.returns-in-7
unfolding header_lines
returns-in-7 c = line_is (header_lines c.args.header) c.args.index 7 c.in-7.is c.put_bits-in-7.ensures

pub returns-in-8 : goal.returns-in-8
unfolding header_lines
returns-in-8 c = line_is (header_lines c.args.header) c.args.index 8 c.in-8.is c.put_frequency.ensures

pub returns-in_default : goal.returns-in_default
unfolding header_lines
returns-in_default c =
    let last = last_field c.args.index c.requires.index_bound (search rules) (search rules) (search rules) (search rules) (search rules) (search rules) (search rules) (search rules) (search rules) in
    line_is (header_lines c.args.header) c.args.index 9 last c.put_frequency-in_default.ensures
