-- The signature, then the numbers of 16 bits, then those of 32.
use mathlib.Core.Path.{refl, ap, ◌∙◌}
use mathlib.Core.List.{List, [], ◌∷◌}
use Prim.Native.Nat.{ℕ}
use Rattle.endian.specs.Parts.{written}
use Rattle.endian.specs.Numbers.{bytes_of}
use Rattle.endian.specs.Runs.{bytes_of_each}
use Rattle.hip_format.specs.Format.{signature, header_size, cpu_size, memory_size, fields}
use Rattle.hip_writer.proofs.RunLaws.{header_written}
use Rattle.hip_writer.proofs.put_header.Goals as goal

pub returns : goal.returns
returns c = header_written c.args.buffer.now _ _ _ signature (0 ∷ c.args.size ∷ header_size ∷ cpu_size ∷ c.args.start ∷ memory_size ∷ []) (fields c.args.header) refl refl
    c.put_bytes.ensures c.put_all.ensures
    (c.put_all-2.ensures ∙ ap (λ (l : List ℕ). written c.put_all.new.buffer 16 (bytes_of_each (bytes_of 4) l)) c.fields-long_fields.ensures)
