-- A refused page has one line.
use mathlib.Core.Path.{sym, ◌∙◌}
use Rattle.hip_reader.proofs.ReadLaws.{refuses}
use Rattle.hip_text.proofs.LineLaws.{refused_line}
use Rattle.hip_text.proofs.put_line.Goals as goal

pub put_page_line-requires-clause-summary_value : goal.put_page_line-requires-clause-summary_value
put_page_line-requires-clause-summary_value c = sym c.in-Ok.is ∙ c.requires.read_as_value

pub put_page_line-requires-clause-index_bound : goal.put_page_line-requires-clause-index_bound
put_page_line-requires-clause-index_bound c = rw c.in-Ok.is at c.requires.index_bound

pub returns-in-Err : goal.returns-in-Err
returns-in-Err c = let why = refuses c.args.bytes.now _ _ c.requires.read_as_value c.in-Err.is in
    refused_line c.args.bytes.now _ why c.args.index (rw c.in-Err.is at c.requires.index_bound) c.put_refusal.ensures
