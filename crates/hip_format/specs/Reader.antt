-- Reading bytes as an information page: what stands where, the tests in their order, and what is answered.
use Rattle.std.specs.Prelude.{ℕ, ◌+◌, ◌-◌, ◌/◌, ◌%◌, Bool, true, false, cond, ◌&&◌, List, [], ◌∷◌, eqb, leb, length, get_or, take, slice_get, Option, None, Result, Ok, Err}
use Rattle.std.specs.Int.{w32}
use Rattle.std.proofs.Common.{to_z}
use Rattle.endian.specs.Numbers.{number_at}
use Rattle.endian.specs.Runs.{spaced}
use Rattle.hip_format.specs.Format.{signature, header_size, cpu_size, memory_size, type_allowed, Contents, word_sum}
use Rattle.hip_format.specs.declared.Header.{Header}
use Rattle.hip_format.specs.declared.Cpu.{Cpu}
use Rattle.hip_format.specs.declared.Memory.{Memory}
use Rattle.hip_format.specs.declared.Refusal.{Refusal}
use Rattle.hip_format.specs.declared.Refusal.TheVariants.{Short, Signature, Length, Layout, Checksum, «Type»}
use Rattle.hip_format.specs.declared.Summary.{Summary}

-- the number of a refusal
abbrev pub refusal_number : Refusal → ℕ
refusal_number Short = 1
refusal_number Signature = 2
refusal_number Length = 3
refusal_number Layout = 4
refusal_number Checksum = 5
refusal_number «Type» = 6

-- the numbers of 16 bits of a page's header
abbrev pub checksum_field : List ℕ → ℕ
checksum_field bytes = number_at bytes 4 2

abbrev pub length_field : List ℕ → ℕ
length_field bytes = number_at bytes 6 2

abbrev pub cpu_offset : List ℕ → ℕ
cpu_offset bytes = number_at bytes 8 2

abbrev pub cpu_size_field : List ℕ → ℕ
cpu_size_field bytes = number_at bytes 10 2

abbrev pub memory_offset : List ℕ → ℕ
memory_offset bytes = number_at bytes 12 2

abbrev pub memory_size_field : List ℕ → ℕ
memory_size_field bytes = number_at bytes 14 2

-- its ten fields
abbrev pub header_at : List ℕ → Header
header_at bytes =
    record {
      features = number_at bytes 16 4;
      version = number_at bytes 20 4;
      sel = number_at bytes 24 4;
      exc = number_at bytes 28 4;
      vmi = number_at bytes 32 4;
      gsi = number_at bytes 36 4;
      pages = number_at bytes 40 4;
      utcbs = number_at bytes 44 4;
      tsc = number_at bytes 48 4;
      bus = number_at bytes 52 4;
    }

-- the CPU descriptor and the memory descriptor that begin at a place
abbrev pub cpu_at : List ℕ → ℕ → Cpu
cpu_at bytes at = record { flags = get_or bytes at 0; thread = get_or bytes (at + 1) 0; core = get_or bytes (at + 2) 0; «package» = get_or bytes (at + 3) 0 }

abbrev pub memory_at : List ℕ → ℕ → Memory
memory_at bytes at =
    record { address = number_at bytes at 8; size = number_at bytes (at + 8) 8; kind = to_z w32 (number_at bytes (at + 16) 4); auxiliary = number_at bytes (at + 20) 4 }

-- how many descriptors a page has: equations 6.1 and 6.2 of the NOVA specification
abbrev pub cpu_count : List ℕ → ℕ
cpu_count bytes = (memory_offset bytes - header_size) / cpu_size

abbrev pub memory_count : List ℕ → ℕ
memory_count bytes = (length bytes - memory_offset bytes) / memory_size

-- what a page holds
unfoldable pub contents_of : List ℕ → Contents
contents_of bytes =
    record {
      header = header_at bytes;
      cpus = spaced (cpu_at bytes) header_size cpu_size (cpu_count bytes);
      memories = spaced (memory_at bytes) (memory_offset bytes) memory_size (memory_count bytes);
    }

-- whether two lists of bytes are the same
abbrev pub same_bytes : List ℕ → List ℕ → Bool
same_bytes [] [] = true
same_bytes [] (other ∷ others) = false
same_bytes (byte ∷ bytes) [] = false
same_bytes (byte ∷ bytes) (other ∷ others) = eqb byte other && same_bytes bytes others

-- whether the offsets and the sizes are those of a page, and both parts are whole
unfoldable pub layout_good : List ℕ → Bool
layout_good bytes =
    eqb (cpu_offset bytes) header_size && eqb (cpu_size_field bytes) cpu_size && eqb (memory_size_field bytes) memory_size &&
    leb header_size (memory_offset bytes) && leb (memory_offset bytes) (length bytes) &&
    eqb ((memory_offset bytes - header_size) % cpu_size) 0 && eqb ((length bytes - memory_offset bytes) % memory_size) 0

-- whether each memory descriptor has a type that is allowed
unfoldable pub types_allowed : List Memory → Bool
types_allowed [] = true
types_allowed (memory ∷ memories) = type_allowed memory.kind && types_allowed memories

-- what bytes are judged to be: no page, for a reason, or the page of some contents
pub data Judgement : Type 0 where
  refused : Refusal → Judgement
  accepted : Contents → Judgement

-- a test that refuses where it fails
abbrev pub unless : Bool → Refusal → Judgement → Judgement
unless test refusal otherwise = cond test otherwise (refused refusal)

-- the tests in their order
unfoldable pub judged : List ℕ → Judgement
judged bytes =
    unless (leb header_size (length bytes)) Short
    (unless (same_bytes (take 4 bytes) signature) Signature
    (unless (eqb (length_field bytes) (length bytes)) Length
    (unless (layout_good bytes) Layout
    (unless (eqb (word_sum bytes % 65536) 0) Checksum
    (unless (types_allowed (contents_of bytes).memories) «Type»
    (accepted (contents_of bytes)))))))

-- what the reader answers
abbrev pub summary : Contents → Summary
summary contents = record { header = contents.header; cpus = length contents.cpus; memories = length contents.memories }

abbrev pub reading : Judgement → Result Summary Refusal
reading (refused refusal) = Err refusal
reading (accepted contents) = Ok (summary contents)

-- the descriptor of an index: a refused page has none
abbrev pub cpu_of : Judgement → ℕ → Option Cpu
cpu_of (refused refusal) index = None
cpu_of (accepted contents) index = slice_get contents.cpus index

abbrev pub memory_of : Judgement → ℕ → Option Memory
memory_of (refused refusal) index = None
memory_of (accepted contents) index = slice_get contents.memories index
