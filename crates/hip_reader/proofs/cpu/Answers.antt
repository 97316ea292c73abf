-- A descriptor stands where its index says.
use native.Mathlib.Omega.{arith}
use mathlib.Core.Path.{sym, ◌∙◌}
use Rattle.hip_reader.proofs.ReadLaws.{accepts_some, cpu_found}
use Rattle.hip_reader.proofs.cpu.Goals as goal

pub overflow_mul-index : goal.overflow_mul-index
overflow_mul-index c = let page = accepts_some _ c.read.ensures (sym c.ok.ensures.value ∙ c.in_ok-summary.was) in
    omega (arith, page)

pub overflow_add-index : goal.overflow_add-index
overflow_add-index c = let page = accepts_some _ c.read.ensures (sym c.ok.ensures.value ∙ c.in_ok-summary.was) in
    omega (arith, page)

pub cpu_at-requires : goal.cpu_at-requires
cpu_at-requires c = let page = accepts_some _ c.read.ensures (sym c.ok.ensures.value ∙ c.in_ok-summary.was) in
    omega (arith, page)

pub returns : goal.returns
returns c = let page = accepts_some _ c.read.ensures (sym c.ok.ensures.value ∙ c.in_ok-summary.was) in
    cpu_found c.args.bytes.now c.args.index page _ (omega arith) c.cpu_at.ensures
