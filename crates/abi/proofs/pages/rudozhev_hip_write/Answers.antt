-- The writing, packed.
use mathlib.Core.Path.{ap, ◌∙◌}
use Rattle.hip_format.specs.Writer.{given, writing}
use Rattle.hip_format.specs.declared.Header.{Header}
use Rattle.abi.proofs.PagePackingLaws.{writes}
use Rattle.abi.proofs.pages.rudozhev_hip_write.Goals as goal

pub returns : goal.returns
returns c = let start = c.args in
    writes _ _
    (c.write-done.ensures ∙
    ap (λ (header : Header). writing (given header start.cpus.now start.addresses.now start.sizes.now start.kinds.now start.auxiliaries.now) start.buffer.now) c.header_of.ensures)
    c.pack_written.ensures
