-- What the functions of the information page give to other languages: answers as numbers of 64 bits, the fields of a header in order.
use Rattle.std.specs.Prelude.{ℕ, ◌+◌, ◌*◌, List, [], ◌∷◌, ℤ, pos, length, get_or, Option, Some, None, Result, Ok, Err}
use Rattle.endian.specs.Numbers.{little}
use Rattle.hip_format.specs.Format.{fields, cpu_bytes}
use Rattle.hip_format.specs.Reader.{Judgement, refused, accepted, refusal_number}
use Rattle.hip_format.specs.Writer.{Writing, write_refusal_number}
use Rattle.hip_format.specs.declared.Header.{Header}
use Rattle.hip_format.specs.declared.Cpu.{Cpu}
use Rattle.hip_format.specs.declared.Memory.{Memory}
use Rattle.hip_format.specs.declared.WriteRefusal.{WriteRefusal}
use Rattle.abi.specs.Packing.{joined}

-- a page that was read: the refusal's number, or else the two counts, that of memory descriptors above that of CPU descriptors; and the ten fields, which a refusal leaves
pub record PageRead : Type 0 where
  pub word : ℕ
  pub fields : List ℕ

abbrev pub page_read : Judgement → List ℕ → PageRead
page_read (refused refusal) before = record { word = joined (refusal_number refusal) 0; fields = before }
page_read (accepted contents) before =
    record { word = length contents.memories * 65536 + length contents.cpus; fields = fields contents.header }

-- a CPU descriptor: 1, and its four bytes as a number; 0 where there is none
abbrev pub packed_cpu : Option Cpu → ℕ
packed_cpu None = 0
packed_cpu (Some cpu) = joined 1 (little (cpu_bytes cpu))

-- a memory descriptor: its type, and address, size and auxiliary; where there is none, type 0, which no descriptor has, and the numbers stay
pub record MemoryRead : Type 0 where
  pub kind : ℤ
  pub numbers : List ℕ

abbrev pub memory_read : Option Memory → List ℕ → MemoryRead
memory_read None before = record { kind = pos 0; numbers = before }
memory_read (Some memory) before = record { kind = memory.kind; numbers = memory.address ∷ memory.size ∷ memory.auxiliary ∷ [] }

-- the header of ten fields in their order
abbrev pub header_of : List ℕ → Header
header_of list =
    record {
      features = get_or list 0 0;
      version = get_or list 1 0;
      sel = get_or list 2 0;
      exc = get_or list 3 0;
      vmi = get_or list 4 0;
      gsi = get_or list 5 0;
      pages = get_or list 6 0;
      utcbs = get_or list 7 0;
      tsc = get_or list 8 0;
      bus = get_or list 9 0;
    }

-- a page that was written: the refusal's number, or 0 and the page's length
abbrev pub packed_written : Result ℕ WriteRefusal → ℕ
packed_written (Ok bytes) = bytes
packed_written (Err refusal) = joined (write_refusal_number refusal) 0

pub record PageWritten : Type 0 where
  pub word : ℕ
  pub buffer : List ℕ

abbrev pub page_written : Writing → PageWritten
page_written writing = record { word = packed_written writing.answer; buffer = writing.buffer }
