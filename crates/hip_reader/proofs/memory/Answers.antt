-- A descriptor stands where its index says.
use native.Mathlib.Omega.{arith}
use mathlib.Core.Path.{sym, ◌∙◌}
use Rattle.hip_reader.proofs.ReadLaws.{accepts_some, memory_found}
use Rattle.hip_reader.proofs.memory.Goals as goal

pub get-start-requires : goal.get-start-requires
get-start-requires c = let page = accepts_some _ c.read.ensures (sym c.ok.ensures.value ∙ c.in_ok-summary.was) in
    omega (arith, page)

pub overflow_mul-index : goal.overflow_mul-index
overflow_mul-index c = let page = accepts_some _ c.read.ensures (sym c.ok.ensures.value ∙ c.in_ok-summary.was) in
    omega (arith, page)

pub overflow_add-start : goal.overflow_add-start
overflow_add-start c = let page = accepts_some _ c.read.ensures (sym c.ok.ensures.value ∙ c.in_ok-summary.was) in
    omega (arith, page, c.get-start.ensures)

pub memory_at-requires : goal.memory_at-requires
memory_at-requires c = let page = accepts_some _ c.read.ensures (sym c.ok.ensures.value ∙ c.in_ok-summary.was) in
    omega (arith, page, c.get-start.ensures)

pub returns : goal.returns
returns c = let page = accepts_some _ c.read.ensures (sym c.ok.ensures.value ∙ c.in_ok-summary.was) in
    memory_found c.args.bytes.now c.args.index page _ _ (omega arith) c.get-start.ensures c.memory_at.ensures
