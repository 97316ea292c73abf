-- What is packed of a page is what was read or written.
use Prim.Native.Nat.{ℕ, ◌+◌, ◌*◌}
use mathlib.Core.Path.{◌≡◌, sym, ap, ◌∙◌}
use mathlib.Core.List.{List, [], ◌∷◌}
use lib.IntN.{pos}
use mir.Syntax.{w32}
use mir.Val.{of_z, to_z}
use Rattle.hip_format.specs.Format.{fields}
use Rattle.hip_format.specs.Reader.{refusal_number, refused, judged, memory_of}
use Rattle.hip_format.specs.Writer.{Writing}
use Rattle.hip_format.specs.declared.Refusal.{Refusal}
use Rattle.hip_format.specs.declared.Summary.{Summary}
use Rattle.hip_format.specs.declared.Cpu.{Cpu}
use Rattle.std.specs.Prelude.{Option, Some, None}
use Rattle.hip_format.specs.declared.Memory.{Memory}
use Rattle.hip_format.proofs.FieldLaws.{kind_back}
use Rattle.hip_format.proofs.DescriptorLaws.{found_allowed}
use Rattle.hip_reader.proofs.ReadLaws.{Accepts}
use Rattle.abi.specs.Packing.{joined}
use Rattle.abi.specs.PagePacking.{page_read, packed_cpu, memory_read, packed_written, page_written}

-- a page that was read
pub reads_refused : (bytes before : List ℕ) (refusal : Refusal) (number word : ℕ) → judged bytes ≡ refused refusal → number ≡ refusal_number refusal → word ≡ joined number 0 →
    record { word = word; fields = before } ≡ page_read (judged bytes) before
reads_refused bytes before refusal number word e en ew = rw (ew, en, e)

pub reads_accepted : (bytes before : List ℕ) (summary : Summary) → Accepts bytes summary →
    record { word = summary.memories * 65536 + summary.cpus; fields = fields summary.header } ≡ page_read (judged bytes) before
reads_accepted bytes before summary page = rw (page.is_page, page.memories_read, page.cpus_read, page.header_read)

-- a descriptor
pub packs_cpu : {found answer : Option Cpu} {word : ℕ} → answer ≡ found → word ≡ packed_cpu answer → word ≡ packed_cpu found
packs_cpu e ew = ew ∙ ap packed_cpu e

-- a page that was written
pub writes : {answer : Writing} (written : Writing) (word : ℕ) → written ≡ answer → word ≡ packed_written written.answer →
    record { word = word; buffer = written.buffer } ≡ page_written answer
writes written word e ew = rw ew (ap page_written e)

-- a memory descriptor that was found, with its type as it was stored
pub reads_no_memory : (bytes before : List ℕ) (index : ℕ) (found : Option Memory) → found ≡ memory_of (judged bytes) index → found ≡ None →
    record { kind = pos 0; numbers = before } ≡ memory_read (memory_of (judged bytes) index) before
reads_no_memory bytes before index found e none = ap (λ (f : Option Memory). memory_read f before) (sym none ∙ e)

pub reads_memory : (bytes before : List ℕ) (index : ℕ) (found : Option Memory) (memory : Memory) → found ≡ memory_of (judged bytes) index → found ≡ Some memory →
    record { kind = to_z w32 (of_z w32 memory.kind); numbers = memory.address ∷ memory.size ∷ memory.auxiliary ∷ [] } ≡ memory_read (memory_of (judged bytes) index) before
reads_memory bytes before index found memory e some =
    let is : memory_of (judged bytes) index ≡ Some memory = sym e ∙ some in
    rw (kind_back memory.kind (found_allowed bytes index memory is), is)
