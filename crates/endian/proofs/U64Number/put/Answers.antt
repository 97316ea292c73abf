-- The library's bytes are those of the number.
use mathlib.Core.Path.{ap, ◌∙◌}
use mir.Syntax.{w64}
use Rattle.endian.specs.Parts.{written}
use Rattle.endian.proofs.LibraryLaws.{bytes_written}
use Rattle.endian.proofs.U64Number.put.Goals as goal

pub returns : goal.returns
returns c = c.put_bytes.ensures ∙ ap (written c.args.buffer.now c.args.at) (c.to_le_bytes.ensures ∙ bytes_written w64 c.args.self)
