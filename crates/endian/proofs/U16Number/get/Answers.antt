-- The library reads the part of the bytes that stands there.
use mathlib.Core.Path.{ap, ◌∙◌}
use native.Mathlib.Omega.{arith}
use mir.Syntax.{w16}
use Rattle.std.specs.Int.{from_le_bytes}
use Rattle.endian.specs.Parts.{part}
use Rattle.endian.specs.Numbers.{number_at}
use Rattle.endian.proofs.PartLaws.{length_part}
use Rattle.endian.proofs.LibraryLaws.{number_read}
use Rattle.endian.proofs.U16Number.get.Goals as goal

pub returns : goal.returns
unfolding number_at
returns c = let start = c.args in
    c.from_le_bytes.ensures ∙ ap (from_le_bytes w16) c.array.ensures ∙ number_read w16 (part start.bytes.now start.at 2) (omega arith) (length_part start.bytes.now start.at 2 c.requires)
