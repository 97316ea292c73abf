-- The title, the fields, the table of CPUs and that of memory follow one another; a page has fewer than 65536 bytes, so each number fits.
use native.Mathlib.Omega.{arith}
use borrow.Author.Rules.{rules}
use Rattle.hip_text.proofs.LineLaws.{page, page_short, title_line_lem, field_line, cpu_line, memory_line}
use Rattle.hip_text.proofs.put_page_line.Goals as goal

pub overflow_cast-bytes : goal.overflow_cast-bytes
overflow_cast-bytes c = let p = page c.args.bytes.now c.args.summary c.requires.summary_value in
    omega (arith, page_short c.args.bytes.now c.args.summary p (λ i. search rules))

pub get-requires : goal.get-requires
get-requires c = omega (arith, (page c.args.bytes.now c.args.summary c.requires.summary_value).whole)

pub returns-then-index-eq0 : goal.returns-then-index-eq0
returns-then-index-eq0 c = let p = page c.args.bytes.now c.args.summary c.requires.summary_value in
    title_line_lem c.args.bytes.now c.args.summary p c.args.index c.get.result c.if-index-eq0.true c.get.ensures c.put_title.ensures

pub returns-then-index-le-FIELDS : goal.returns-then-index-le-FIELDS
returns-then-index-le-FIELDS c = let p = page c.args.bytes.now c.args.summary c.requires.summary_value in
    field_line c.args.bytes.now c.args.summary p c.args.index c.if-index-eq0.false c.if-index-le-FIELDS.true c.put_field.ensures

pub overflow_add-cpu_lines : goal.overflow_add-cpu_lines
overflow_add-cpu_lines c = omega (arith, (page c.args.bytes.now c.args.summary c.requires.summary_value).whole)

pub put_cpu_line-requires-clause-count_in_bounds : goal.put_cpu_line-requires-clause-count_in_bounds
put_cpu_line-requires-clause-count_in_bounds c = omega (arith, (page c.args.bytes.now c.args.summary c.requires.summary_value).whole)

pub put_cpu_line-requires-clause-bytes_len_bound : goal.put_cpu_line-requires-clause-bytes_len_bound
put_cpu_line-requires-clause-bytes_len_bound c = let p = page c.args.bytes.now c.args.summary c.requires.summary_value in
    omega (arith, page_short c.args.bytes.now c.args.summary p (λ i. search rules))

pub returns-then-below-cpu_lines : goal.returns-then-below-cpu_lines
returns-then-below-cpu_lines c = let p = page c.args.bytes.now c.args.summary c.requires.summary_value in
    cpu_line c.args.bytes.now c.args.summary p c.args.index c.if-index-le-FIELDS.false c.if-below-cpu_lines.true c.put_cpu_line.ensures

pub overflow_mul-start : goal.overflow_mul-start
overflow_mul-start c = omega (arith, (page c.args.bytes.now c.args.summary c.requires.summary_value).whole)

pub overflow_add-start : goal.overflow_add-start
overflow_add-start c = omega (arith, (page c.args.bytes.now c.args.summary c.requires.summary_value).whole)

pub put_memory_line-requires-clause-count_in_bounds : goal.put_memory_line-requires-clause-count_in_bounds
put_memory_line-requires-clause-count_in_bounds c = omega (arith, (page c.args.bytes.now c.args.summary c.requires.summary_value).whole)

pub put_memory_line-requires-clause-bytes_len_bound : goal.put_memory_line-requires-clause-bytes_len_bound
put_memory_line-requires-clause-bytes_len_bound c = let p = page c.args.bytes.now c.args.summary c.requires.summary_value in
    omega (arith, page_short c.args.bytes.now c.args.summary p (λ i. search rules))

pub put_memory_line-requires-clause-count_value : goal.put_memory_line-requires-clause-count_value
put_memory_line-requires-clause-count_value c = (page c.args.bytes.now c.args.summary c.requires.summary_value).typed

pub put_memory_line-requires-clause-index_bound : goal.put_memory_line-requires-clause-index_bound
put_memory_line-requires-clause-index_bound c = omega (arith, c.requires.index_bound)

pub returns : goal.returns
returns c = let p = page c.args.bytes.now c.args.summary c.requires.summary_value in
    memory_line c.args.bytes.now c.args.summary p c.args.index c.if-index-le-FIELDS.false c.if-below-cpu_lines.false c.put_memory_line.ensures
