-- The offsets and sizes one by one.
use Rattle.hip_reader.proofs.ReadLaws.{layout_early, layout_late, layout_tested}
use borrow.Author.Rules.{rules}
use Rattle.hip_reader.proofs.is_laid_out.Goals as goal

pub returns-then-start-lt-HEADER_SIZE : goal.returns-then-start-lt-HEADER_SIZE
returns-then-start-lt-HEADER_SIZE c = search (layout_early, rules)

pub returns-then-bytes-start : goal.returns-then-bytes-start
returns-then-bytes-start c = search (layout_late, rules)

pub returns : goal.returns
returns c = layout_tested c.args.bytes.now _ _ _ _ c.get-start.ensures c.get.ensures c.get-2.ensures
    c.get-3.ensures (search rules) (search rules)
