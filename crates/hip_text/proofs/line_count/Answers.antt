-- The lines of the parts add up.
use mathlib.Core.Path.{sym, ◌∙◌}
use native.Mathlib.Omega.{arith}
use Rattle.hip_reader.proofs.ReadLaws.{refuses}
use Rattle.hip_text.proofs.LineLaws.{page, page_counted, refused_counted}
use Rattle.hip_text.proofs.line_count.Goals as goal

pub overflow_add-result-in-Ok-2 : goal.overflow_add-result-in-Ok-2
overflow_add-result-in-Ok-2 c = omega (arith, (page c.args.bytes.now _ (sym c.in-Ok.is ∙ c.requires)).whole)

pub overflow_add-result-in-Ok-3 : goal.overflow_add-result-in-Ok-3
overflow_add-result-in-Ok-3 c = omega (arith, (page c.args.bytes.now _ (sym c.in-Ok.is ∙ c.requires)).whole)

pub overflow_add-result-in-Ok-4 : goal.overflow_add-result-in-Ok-4
overflow_add-result-in-Ok-4 c = omega (arith, (page c.args.bytes.now _ (sym c.in-Ok.is ∙ c.requires)).whole)

pub returns-in-Err-clause-value : goal.returns-in-Err-clause-value
returns-in-Err-clause-value c = sym (refused_counted c.args.bytes.now _ (refuses c.args.bytes.now _ _ c.requires c.in-Err.is))

pub returns-in-Err-clause-value_2 : goal.returns-in-Err-clause-value_2
returns-in-Err-clause-value_2 c = rw c.in-Err.is

pub returns-in-Ok-clause-value : goal.returns-in-Ok-clause-value
returns-in-Ok-clause-value c = omega (arith, page_counted c.args.bytes.now _ (page c.args.bytes.now _ (sym c.in-Ok.is ∙ c.requires)))

pub returns-in-Ok-clause-value_2 : goal.returns-in-Ok-clause-value_2
returns-in-Ok-clause-value_2 c = rw c.in-Ok.is (omega arith)
