-- Writing an information page: what the writer is given, its tests in their order, and what it leaves in the buffer.
use Rattle.std.specs.Prelude.{ℕ, ◌/◌, min, cond, not, List, ◌++◌, ltb, ℤ, pos, length, get_or, drop, Result, Ok, Err}
use Rattle.endian.specs.Runs.{spaced}
use Rattle.hip_format.specs.Format.{cpu_size, greatest_length, Contents, page_length, page}
use Rattle.hip_format.specs.Reader.{cpu_at, types_allowed}
use Rattle.hip_format.specs.declared.Header.{Header}
use Rattle.hip_format.specs.declared.Memory.{Memory}
use Rattle.hip_format.specs.declared.WriteRefusal.{WriteRefusal}
use Rattle.hip_format.specs.declared.WriteRefusal.TheVariants.{«Type», Large, Room}

-- the number of a refusal to write
abbrev pub write_refusal_number : WriteRefusal → ℕ
write_refusal_number «Type» = 6
write_refusal_number Large = 7
write_refusal_number Room = 8

-- the number of what writing comes to: 0 where the page is written
abbrev pub written_number : Result ℕ WriteRefusal → ℕ
written_number (Ok bytes) = 0
written_number (Err refusal) = write_refusal_number refusal

-- the memory descriptors of four lists: the shortest says how many there are
abbrev pub memory_given : List ℕ → List ℕ → List ℤ → List ℕ → ℕ → Memory
memory_given addresses sizes kinds auxiliaries index =
    record { address = get_or addresses index 0; size = get_or sizes index 0; kind = get_or kinds index (pos 0); auxiliary = get_or auxiliaries index 0 }

abbrev pub shortest : List ℕ → List ℕ → List ℤ → List ℕ → ℕ
shortest addresses sizes kinds auxiliaries = min (min (length addresses) (length sizes)) (min (length kinds) (length auxiliaries))

-- what the writer is given: the header, the bytes of CPU descriptors, of which those that make no whole one are not read, and the four lists
unfoldable pub given : Header → List ℕ → List ℕ → List ℕ → List ℤ → List ℕ → Contents
given header cpus addresses sizes kinds auxiliaries =
    record {
      header = header;
      cpus = spaced (cpu_at cpus) 0 cpu_size (length cpus / cpu_size);
      memories = spaced (memory_given addresses sizes kinds auxiliaries) 0 1 (shortest addresses sizes kinds auxiliaries);
    }

-- what writing comes to, and the buffer that it leaves
pub record Writing : Type 0 where
  pub answer : Result ℕ WriteRefusal
  pub buffer : List ℕ

-- the tests in their order: a refused write leaves the buffer as it was, and the bytes past the page stay
unfoldable pub writing : Contents → List ℕ → Writing
writing contents buffer =
    cond (not (types_allowed contents.memories)) (record { answer = Err «Type»; buffer = buffer })
    (cond (ltb greatest_length (page_length contents)) (record { answer = Err Large; buffer = buffer })
    (cond (ltb (length buffer) (page_length contents)) (record { answer = Err Room; buffer = buffer })
    (record { answer = Ok (page_length contents); buffer = page contents ++ drop (page_length contents) buffer })))
