-- The four columns and the type follow one another.
use native.Mathlib.Omega.{arith}
use mir.Syntax.{w32}
use mir.Facts.{to_z-of_z}
use borrow.Author.Rules.{rules}
use Rattle.hip_text.proofs.LineLaws.{wrote_memory}
use Rattle.hip_text.proofs.put_memory.Goals as goal

pub returns : goal.returns
returns c = let kind = to_z-of_z {w = w32} {z = c.args.memory.kind} (record { sfits = search rules }) in
    wrote_memory (omega (arith, c.requires.line_bytes_in_bounds)) c.args.index c.args.memory c.put_column-address_at.ensures.wrote c.put_hex_column-size_at.ensures.wrote c.put_column-auxiliary_at.ensures.wrote
    c.put_hex_column-type_at.ensures.wrote (rw kind at c.put_type.ensures)
