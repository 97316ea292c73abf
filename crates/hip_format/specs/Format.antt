-- The information page: its sizes, what it holds, and its bytes.
use Rattle.std.specs.Prelude.{ℕ, ◌+◌, ◌-◌, ◌*◌, ◌%◌, Bool, ◌&&◌, List, [], ◌∷◌, ◌++◌, ltb, leb, ℤ, pos, negsuc, length}
use Rattle.std.specs.Int.{w32}
use Rattle.std.proofs.Common.{of_z}
use Rattle.endian.specs.Numbers.{bytes_of}
use Rattle.endian.specs.Runs.{bytes_of_each}
use Rattle.hip_format.specs.declared.Header.{Header}
use Rattle.hip_format.specs.declared.Cpu.{Cpu}
use Rattle.hip_format.specs.declared.Memory.{Memory}

-- the four bytes that a page begins with: the letters NOVA
abbrev pub signature : List ℕ
signature = 78 ∷ 79 ∷ 86 ∷ 65 ∷ []

-- the bytes of the header, of a CPU descriptor and of a memory descriptor, and of the longest page
abbrev pub header_size : ℕ
header_size = 56

abbrev pub cpu_size : ℕ
cpu_size = 4

abbrev pub memory_size : ℕ
memory_size = 24

abbrev pub greatest_length : ℕ
greatest_length = 65535

-- the types that a memory descriptor may have: -2, -1 and 1 to 4
abbrev pub type_allowed : ℤ → Bool
type_allowed (pos number) = ltb 0 number && leb number 4
type_allowed (negsuc number) = ltb number 2

-- what a page holds: the ten fields of its header, and its descriptors
pub record Contents : Type 0 where
  pub header : Header
  pub cpus : List Cpu
  pub memories : List Memory

-- the ten fields in their order
abbrev pub fields : Header → List ℕ
fields header =
    header.features ∷
    header.version ∷
    header.sel ∷
    header.exc ∷
    header.vmi ∷
    header.gsi ∷
    header.pages ∷
    header.utcbs ∷
    header.tsc ∷
    header.bus ∷
    []

-- the bytes of a CPU descriptor
abbrev pub cpu_bytes : Cpu → List ℕ
cpu_bytes cpu = cpu.flags ∷ cpu.thread ∷ cpu.core ∷ cpu.«package» ∷ []

-- the bytes of a memory descriptor; the type is signed, in two's complement
unfoldable pub memory_bytes : Memory → List ℕ
memory_bytes memory = bytes_of 8 memory.address ++ (bytes_of 8 memory.size ++ (bytes_of 4 (of_z w32 memory.kind) ++ bytes_of 4 memory.auxiliary))

-- where the memory descriptors of a page begin, and its length
abbrev pub memory_start : Contents → ℕ
memory_start contents = header_size + cpu_size * length contents.cpus

abbrev pub page_length : Contents → ℕ
page_length contents = memory_start contents + memory_size * length contents.memories

-- the six numbers of 16 bits: checksum, length, CPU offset and size, memory offset and size
abbrev pub short_fields : ℕ → Contents → List ℕ
short_fields checksum contents = checksum ∷ page_length contents ∷ header_size ∷ cpu_size ∷ memory_start contents ∷ memory_size ∷ []

-- the bytes of a page, but for the checksum, which is given
unfoldable pub page_with : ℕ → Contents → List ℕ
page_with checksum contents =
    signature ++
    (bytes_of_each (bytes_of 2) (short_fields checksum contents) ++
    (bytes_of_each (bytes_of 4) (fields contents.header) ++
    (bytes_of_each cpu_bytes contents.cpus ++
    bytes_of_each memory_bytes contents.memories)))

-- the sum of the words of 16 bits, little-endian, from the first byte on; a byte that is left over makes no word
unfoldable pub word_sum : List ℕ → ℕ
word_sum [] = 0
word_sum (low ∷ []) = 0
word_sum (low ∷ high ∷ bytes) = low + 256 * high + word_sum bytes

-- what is added to a sum so that it is 0 modulo 65536
abbrev pub complement : ℕ → ℕ
complement sum = (65536 - sum % 65536) % 65536

-- the checksum of a page, and its bytes
abbrev pub checksum_of : Contents → ℕ
checksum_of contents = complement (word_sum (page_with 0 contents))

unfoldable pub page : Contents → List ℕ
page contents = page_with (checksum_of contents) contents
