-- What follows from the definitions: reading and writing undo each other, each refusal has exactly its cause, the counts are those of the header's fields, and one checksum fits.
-- Numbers of the page stand here as numbers.
use Rattle.std.specs.Prelude.{ℕ, ◌+◌, ◌-◌, ◌*◌, ◌/◌, ◌%◌, ◌^◌, ◌≤◌, ◌<◌, ◌≡◌, ◌↔◌, ◌⊎◌, true, false, List, [], ◌∷◌, ◌++◌, map, ℤ, pos, negsuc, length, get_or, take, drop, Some, None, Ok, Err}
use Rattle.endian.specs.Parts.{AreBytes}
use Rattle.endian.specs.Numbers.{bytes_of}
use Rattle.endian.specs.Runs.{bytes_of_each, Each}
use Rattle.hip_format.specs.Format.{type_allowed, Contents, fields, cpu_bytes, page_length, page_with, word_sum, checksum_of, page}
use Rattle.hip_format.specs.Reader.{length_field, cpu_offset, cpu_size_field, memory_offset, memory_size_field, cpu_at, memory_at, contents_of, types_allowed, refused, accepted, judged, cpu_of, memory_of}
use Rattle.hip_format.specs.Writer.{shortest, given, writing}
use Rattle.hip_format.specs.declared.Header.{Header}
use Rattle.hip_format.specs.declared.Cpu.{Cpu}
use Rattle.hip_format.specs.declared.Memory.{Memory}
use Rattle.hip_format.specs.declared.Refusal.{Refusal}
use Rattle.hip_format.specs.declared.Refusal.TheVariants.{Short, Signature, Length, Layout, Checksum, «Type»}
use Rattle.hip_format.specs.declared.WriteRefusal.TheVariants.{Large, Room}
use Rattle.hip_format.specs.declared.WriteRefusal as WriteRefusal

-- the numbers of a page's contents have the widths that the code's types give them; a type that is allowed has its width
abbrev pub HeaderFits : Header → Type 0
HeaderFits header = (i : ℕ) → get_or (fields header) i 0 < 2 ^ 32

abbrev pub CpuFits : Cpu → Type 0
CpuFits cpu = AreBytes (cpu_bytes cpu)

pub record MemoryFits (memory : Memory) : Type 0 where
  pub address_fits : memory.address < 2 ^ 64
  pub size_fits : memory.size < 2 ^ 64
  pub auxiliary_fits : memory.auxiliary < 2 ^ 32

pub record Fits (contents : Contents) : Type 0 where
  pub header_fits : HeaderFits contents.header
  pub cpus_fit : Each CpuFits contents.cpus
  pub memories_fit : Each MemoryFits contents.memories

-- What is written reads back equal: the bytes that a write counts are judged to be the page of what was written
abbrev pub ReadsBack : Type 0
ReadsBack =
    (contents : Contents) (buffer : List ℕ) (count : ℕ) → Fits contents → (writing contents buffer).answer ≡ Ok count →
    judged (take count (writing contents buffer).buffer) ≡ accepted contents

-- An accepted page is written back byte for byte, into any buffer that is long enough; and its contents fit, so that the page reads back again
pub record WrittenBack : Type 0 where
  pub same_bytes_lem : (bytes : List ℕ) (contents : Contents) (buffer : List ℕ) → AreBytes bytes → judged bytes ≡ accepted contents → length bytes ≤ length buffer →
      writing contents buffer ≡ record { answer = Ok (length bytes); buffer = bytes ++ drop (length bytes) buffer }
  pub fits : (bytes : List ℕ) (contents : Contents) → AreBytes bytes → judged bytes ≡ accepted contents → Fits contents

-- the header of a page lies as it must: where the parts begin, how large a descriptor of each is, and that both parts are whole
pub record LaysOut (bytes : List ℕ) : Type 0 where
  pub cpu_part : cpu_offset bytes ≡ 56
  pub cpu_size_lem : cpu_size_field bytes ≡ 4
  pub memory_size_lem : memory_size_field bytes ≡ 24
  pub after_cpus : 56 ≤ memory_offset bytes
  pub inside : memory_offset bytes ≤ length bytes
  pub whole_cpus : (memory_offset bytes - 56) % 4 ≡ 0
  pub whole_memories : (length bytes - memory_offset bytes) % 24 ≡ 0

-- the tests that were passed, each with those before it
abbrev pub LongEnough : List ℕ → Type 0
LongEnough bytes = 56 ≤ length bytes

abbrev pub Signed : List ℕ → Type 0
Signed bytes = LongEnough bytes × (take 4 bytes ≡ 78 ∷ 79 ∷ 86 ∷ 65 ∷ [])

abbrev pub Measured : List ℕ → Type 0
Measured bytes = Signed bytes × (length_field bytes ≡ length bytes)

abbrev pub LaidOut : List ℕ → Type 0
LaidOut bytes = Measured bytes × LaysOut bytes

abbrev pub Summed : List ℕ → Type 0
Summed bytes = LaidOut bytes × (word_sum bytes % 65536 ≡ 0)

abbrev pub Typed : List ℕ → Type 0
Typed bytes = Summed bytes × (types_allowed (contents_of bytes).memories ≡ true)

-- A type is allowed exactly if it is one of six, and descriptors' types are exactly if each is
abbrev pub OneOfSix : ℤ → Type 0
OneOfSix kind = (kind ≡ negsuc 1) ⊎ ((kind ≡ negsuc 0) ⊎ ((kind ≡ pos 1) ⊎ ((kind ≡ pos 2) ⊎ ((kind ≡ pos 3) ⊎ (kind ≡ pos 4)))))

pub record TypesExactly : Type 0 where
  pub one : (kind : ℤ) → (type_allowed kind ≡ true) ↔ OneOfSix kind
  pub each : (memories : List Memory) → (types_allowed memories ≡ true) ↔ Each (λ (memory : Memory). OneOfSix memory.kind) memories

-- Each refusal of bytes has exactly its cause behind the tests before it, and bytes are accepted, with what stands in them, exactly where all are passed
pub record RefusedExactly : Type 0 where
  pub short : (bytes : List ℕ) → (judged bytes ≡ refused Short) ↔ (LongEnough bytes → ⊥)
  pub bad_signature : (bytes : List ℕ) → (judged bytes ≡ refused Signature) ↔ (LongEnough bytes × (Signed bytes → ⊥))
  pub bad_length : (bytes : List ℕ) → (judged bytes ≡ refused Length) ↔ (Signed bytes × (Measured bytes → ⊥))
  pub bad_layout : (bytes : List ℕ) → (judged bytes ≡ refused Layout) ↔ (Measured bytes × (LaidOut bytes → ⊥))
  pub bad_checksum : (bytes : List ℕ) → (judged bytes ≡ refused Checksum) ↔ (LaidOut bytes × (Summed bytes → ⊥))
  pub bad_type : (bytes : List ℕ) → (judged bytes ≡ refused «Type») ↔ (Summed bytes × (Typed bytes → ⊥))
  pub good : (bytes : List ℕ) → (judged bytes ≡ accepted (contents_of bytes)) ↔ Typed bytes
  pub odd : (bytes : List ℕ) → Measured bytes → length bytes % 2 ≡ 1 → judged bytes ≡ refused Layout

-- Each refusal to write has exactly its cause behind the tests before it, and leaves the buffer as it was
pub record WriteRefusedExactly : Type 0 where
  pub bad_type : (contents : Contents) (buffer : List ℕ) → ((writing contents buffer).answer ≡ Err WriteRefusal.TheVariants.«Type») ↔ (types_allowed contents.memories ≡ false)
  pub large : (contents : Contents) (buffer : List ℕ) → ((writing contents buffer).answer ≡ Err Large) ↔
      ((types_allowed contents.memories ≡ true) × (65535 < page_length contents))
  pub no_room : (contents : Contents) (buffer : List ℕ) → ((writing contents buffer).answer ≡ Err Room) ↔
      ((types_allowed contents.memories ≡ true) × (page_length contents ≤ 65535) × (length buffer < page_length contents))
  pub stays : (contents : Contents) (buffer : List ℕ) → ((count : ℕ) → (writing contents buffer).answer ≡ Ok count → ⊥) → (writing contents buffer).buffer ≡ buffer
  pub good : (contents : Contents) (buffer : List ℕ) → types_allowed contents.memories ≡ true → page_length contents ≤ 65535 → page_length contents ≤ length buffer →
      writing contents buffer ≡ record { answer = Ok (page_length contents); buffer = page contents ++ drop (page_length contents) buffer }
  pub long : (contents : Contents) → length (page contents) ≡ page_length contents

-- What the writer is given: the four lists have as many descriptors as the shortest of them, each with the numbers of its index; the CPU bytes have a descriptor for each four;
-- and any contents can be given
pub record GivenExactly : Type 0 where
  pub count : (header : Header) (cpus addresses sizes : List ℕ) (kinds : List ℤ) (auxiliaries : List ℕ) →
      length (given header cpus addresses sizes kinds auxiliaries).memories ≡ shortest addresses sizes kinds auxiliaries
  pub at_most : (addresses sizes : List ℕ) (kinds : List ℤ) (auxiliaries : List ℕ) (most : ℕ) →
      (most ≤ shortest addresses sizes kinds auxiliaries) ↔ ((most ≤ length addresses) × (most ≤ length sizes) × (most ≤ length kinds) × (most ≤ length auxiliaries))
  pub whole_cpus : (header : Header) (cpus addresses sizes : List ℕ) (kinds : List ℤ) (auxiliaries : List ℕ) →
      bytes_of_each cpu_bytes (given header cpus addresses sizes kinds auxiliaries).cpus ≡ take (4 * (length cpus / 4)) cpus
  pub all_given : (contents : Contents) →
      given contents.header (bytes_of_each cpu_bytes contents.cpus) (map (λ (memory : Memory). memory.address) contents.memories)
      (map (λ (memory : Memory). memory.size) contents.memories) (map (λ (memory : Memory). memory.kind) contents.memories)
      (map (λ (memory : Memory). memory.auxiliary) contents.memories) ≡
      contents

-- The counts of an accepted page are those of equations 6.1 and 6.2, of its own fields, and these leave no remainder
pub record CountsByFields : Type 0 where
  pub of_cpus : (bytes : List ℕ) (contents : Contents) → judged bytes ≡ accepted contents →
      cpu_offset bytes + cpu_size_field bytes * length contents.cpus ≡ memory_offset bytes
  pub of_memories : (bytes : List ℕ) (contents : Contents) → judged bytes ≡ accepted contents →
      memory_offset bytes + memory_size_field bytes * length contents.memories ≡ length_field bytes

-- The descriptors of an accepted page stand one after the other from their offset on, and there are none past their count
pub record DescriptorsStand : Type 0 where
  pub cpu : (bytes : List ℕ) (contents : Contents) (index : ℕ) → judged bytes ≡ accepted contents → index < length contents.cpus →
      cpu_of (judged bytes) index ≡ Some (cpu_at bytes (56 + 4 * index))
  pub no_cpu_lem : (bytes : List ℕ) (contents : Contents) (index : ℕ) → judged bytes ≡ accepted contents → length contents.cpus ≤ index →
      cpu_of (judged bytes) index ≡ None
  pub memory : (bytes : List ℕ) (contents : Contents) (index : ℕ) → judged bytes ≡ accepted contents → index < length contents.memories →
      memory_of (judged bytes) index ≡ Some (memory_at bytes (memory_offset bytes + 24 * index))
  pub no_memory_lem : (bytes : List ℕ) (contents : Contents) (index : ℕ) → judged bytes ≡ accepted contents → length contents.memories ≤ index →
      memory_of (judged bytes) index ≡ None
  pub none_refused : (bytes : List ℕ) (refusal : Refusal) (index : ℕ) → judged bytes ≡ refused refusal →
      (cpu_of (judged bytes) index ≡ None) × (memory_of (judged bytes) index ≡ None)

-- Every word of 16 bits counts in the sum of a page's words
pub record WordsCount : Type 0 where
  pub none : word_sum [] ≡ 0
  pub one_more : (number : ℕ) (bytes : List ℕ) → number < 65536 → word_sum (bytes_of 2 number ++ bytes) ≡ number + word_sum bytes

-- Of all numbers of 16 bits exactly one is the checksum that makes the sum of a page's words 0
abbrev pub OneChecksumFits : Type 0
OneChecksumFits = (contents : Contents) (checksum : ℕ) → checksum < 65536 → (word_sum (page_with checksum contents) % 65536 ≡ 0) ↔ (checksum ≡ checksum_of contents)

-- Bytes after the first 65536 change no judgement: a reader need not look at them
abbrev pub FrontDecides : Type 0
FrontDecides = (bytes : List ℕ) → AreBytes bytes → judged (take 65536 bytes) ≡ judged bytes
