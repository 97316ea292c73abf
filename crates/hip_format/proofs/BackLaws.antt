-- What is written reads back equal, and what is read is written back byte for byte.
use Prim.Native.Nat.{ℕ, zero, suc, ◌+◌, ◌*◌, ◌≤◌, ◌<◌}
use mathlib.Core.Path.{◌≡◌, refl, sym, ap, ◌∙◌}
use mathlib.Core.Bool.{true}
use mathlib.Core.List.{List, ◌++◌}
use native.Mathlib.Omega.{arith}
use lib.ListN.{length, take, get_or}
use lib.Seq.{take_all}
use Rattle.endian.specs.Parts.{AreBytes, part}
use Rattle.endian.specs.Numbers.{bytes_of}
use Rattle.endian.specs.Runs.{bytes_of_each, spaced, numbers_at, Each}
use Rattle.endian.proofs.PartLaws.{part_add}
use Rattle.endian.proofs.NumberLaws.{number_below}
use Rattle.endian.proofs.RunLaws.{length_spaced, write_each, write_numbers}
use Rattle.hip_format.specs.Format.{signature, greatest_length, Contents, fields, cpu_bytes, memory_bytes, memory_start, page_length, short_fields, page_with, checksum_of, page}
use Rattle.hip_format.specs.Reader.{checksum_field, length_field, cpu_offset, cpu_size_field, memory_offset, memory_size_field, header_at, cpu_at, memory_at, cpu_count, memory_count, contents_of, types_allowed, accepted, judged}
use Rattle.hip_format.specs.Consequences.{HeaderFits, CpuFits, MemoryFits, Fits, LaysOut, Typed}
use Rattle.hip_format.proofs.FieldLaws.{cpu_again, cpu_fits, memory_again, memory_fits}
use Rattle.hip_format.proofs.PageLaws.{fields_spaced, length_page, reads_shorts, reads_header, reads_cpus, reads_memories}
use Rattle.hip_format.proofs.ChecksumLaws.{one_fits}
use Rattle.hip_format.proofs.JudgeLaws.{accepted_of, typed_of, contents_of_lem}

-- the numbers of 16 bits at their places
short_at : (bytes numbers : List ℕ) → numbers_at bytes 4 2 6 ≡ numbers →
    (length_field bytes ≡ get_or numbers 1 0) × (cpu_offset bytes ≡ get_or numbers 2 0) × (cpu_size_field bytes ≡ get_or numbers 3 0) × (memory_offset bytes ≡ get_or numbers 4 0) ×
    (memory_size_field bytes ≡ get_or numbers 5 0)
unfolding spaced
short_at bytes numbers e = (
  ap (λ (l : List ℕ). get_or l 1 0) e,
  ap (λ (l : List ℕ). get_or l 2 0) e,
  ap (λ (l : List ℕ). get_or l 3 0) e,
  ap (λ (l : List ℕ). get_or l 4 0) e,
  ap (λ (l : List ℕ). get_or l 5 0) e,
)

module _ (contents : Contents) (fits : Fits contents) (allowed : types_allowed contents.memories ≡ true) (short : page_length contents ≤ greatest_length) where
  abbrev whole : List ℕ
  whole = page_with (checksum_of contents) contents

  checksum_small : checksum_of contents < 65536
  checksum_small = omega arith

  abbrev shorts_read : (length_field whole ≡ page_length contents) × (cpu_offset whole ≡ 56) × (cpu_size_field whole ≡ 4) × (memory_offset whole ≡ memory_start contents) × (memory_size_field whole ≡ 24)
  shorts_read = short_at whole (short_fields (checksum_of contents) contents) (reads_shorts (checksum_of contents) contents checksum_small short)

  whole_length : length whole ≡ page_length contents
  whole_length = length_page (checksum_of contents) contents

  begins_signed : take 4 whole ≡ signature
  unfolding page_with
  begins_signed = refl

  same_contents : contents_of whole ≡ contents
  unfolding contents_of
  same_contents =
      let cpus : cpu_count whole ≡ length contents.cpus = rw shorts_read.3 (omega arith) in
      let memories : memory_count whole ≡ length contents.memories = rw (shorts_read.3, whole_length) (omega arith) in
      rw (
        cpus,
        memories,
        shorts_read.3,
        reads_header (checksum_of contents) contents fits,
        reads_cpus (checksum_of contents) contents fits,
        reads_memories (checksum_of contents) contents fits allowed,
      )

  lays_out : LaysOut whole
  lays_out =
      record {
        cpu_part = shorts_read.1;
        cpu_size_lem = shorts_read.2;
        memory_size_lem = shorts_read.4;
        after_cpus = rw shorts_read.3 (omega arith);
        inside = rw (shorts_read.3, whole_length) (omega arith);
        whole_cpus = rw shorts_read.3 (omega arith);
        whole_memories = rw (shorts_read.3, whole_length) (omega arith);
      }

  -- a page is judged to be the page of its contents
  pub reads_back : judged (page contents) ≡ accepted contents
  unfolding page
  reads_back =
      let typed : Typed whole =
      (((((rw whole_length (omega arith), begins_signed), shorts_read.0 ∙ sym whole_length), lays_out), (one_fits contents (checksum_of contents) checksum_small).1 refl), rw same_contents allowed) in
      accepted_of whole typed ∙ ap accepted same_contents

-- bytes that begin with the signature are the parts of a page
in_parts : (bytes : List ℕ) (start cpus memories : ℕ) → take 4 bytes ≡ signature → 56 + 4 * cpus ≡ start → start + 24 * memories ≡ length bytes →
    bytes ≡ signature ++ (part bytes 4 12 ++ (part bytes 16 40 ++ (part bytes 56 (4 * cpus) ++ part bytes start (24 * memories))))
in_parts bytes start cpus memories signed begin size =
    let whole : 4 + (12 + (40 + (4 * cpus + 24 * memories))) ≡ length bytes = omega arith in
    let all : part bytes 0 (4 + (12 + (40 + (4 * cpus + 24 * memories)))) ≡ bytes = take_all (4 + (12 + (40 + (4 * cpus + 24 * memories)))) bytes (omega arith) in
    let one = part_add bytes 0 4 (12 + (40 + (4 * cpus + 24 * memories))) in
    let two = part_add bytes 4 12 (40 + (4 * cpus + 24 * memories)) in
    let three = part_add bytes 16 40 (4 * cpus + 24 * memories) in
    let four = part_add bytes 56 (4 * cpus) (24 * memories) in
    sym all ∙ one ∙ (rw (signed, two, three, four, begin))

module _ (bytes : List ℕ) (lays : LaysOut bytes) where
  pub read_start : memory_start (contents_of bytes) ≡ memory_offset bytes
  unfolding contents_of
  read_start = rw (length_spaced (cpu_at bytes) 56 4 (cpu_count bytes)) (omega (arith, lays))

  pub read_length : page_length (contents_of bytes) ≡ length bytes
  unfolding contents_of
  read_length =
      rw (length_spaced (cpu_at bytes) 56 4 (cpu_count bytes), length_spaced (memory_at bytes) (memory_offset bytes) 24 (memory_count bytes)) (omega (arith, lays))

module _ (bytes : List ℕ) (each : AreBytes bytes) (typed : Typed bytes) where
  abbrev read : Contents
  read = contents_of bytes

  abbrev lays : LaysOut bytes
  lays = typed.0.0.1

  -- the numbers of 16 bits are those that stand there
  same_shorts : short_fields (checksum_field bytes) read ≡ numbers_at bytes 4 2 6
  unfolding spaced
  same_shorts = rw (read_length bytes lays, read_start bytes lays, lays.cpu_part, lays.cpu_size_lem, lays.memory_size_lem, typed.0.0.0.1)

  -- each part of the page of what was read is the part that stands there
  write_shorts : bytes_of_each (bytes_of 2) (short_fields (checksum_field bytes) read) ≡ part bytes 4 12
  write_shorts = rw same_shorts (write_numbers 2 4 6 bytes each (omega (arith, typed.0.0.0.0.0)))

  write_longs : bytes_of_each (bytes_of 4) (fields read.header) ≡ part bytes 16 40
  unfolding contents_of
  write_longs = rw (fields_spaced bytes) (write_numbers 4 16 10 bytes each (omega (arith, typed.0.0.0.0.0)))

  write_cpus : bytes_of_each cpu_bytes read.cpus ≡ part bytes 56 (4 * cpu_count bytes)
  unfolding contents_of
  write_cpus = write_each cpu_bytes (cpu_at bytes) bytes 4 (λ at fits. cpu_again bytes at fits) (cpu_count bytes) 56 (omega (arith, lays))

  write_memories : bytes_of_each memory_bytes read.memories ≡ part bytes (memory_offset bytes) (24 * memory_count bytes)
  unfolding contents_of
  write_memories = write_each memory_bytes (memory_at bytes) bytes 24 (λ at fits. memory_again bytes at each fits) (memory_count bytes) (memory_offset bytes) (omega (arith, lays))

  -- the whole is its parts
  parts : bytes ≡ signature ++ (part bytes 4 12 ++ (part bytes 16 40 ++ (part bytes 56 (4 * cpu_count bytes) ++ part bytes (memory_offset bytes) (24 * memory_count bytes))))
  parts = in_parts bytes (memory_offset bytes) (cpu_count bytes) (memory_count bytes) typed.0.0.0.0.1 (omega (arith, lays)) (omega (arith, lays))

  -- a page is the page of what it reads as
  same_page : page_with (checksum_field bytes) read ≡ bytes
  unfolding page_with
  same_page = rw (write_shorts, write_longs, write_cpus, write_memories) (sym parts)

  same_checksum : checksum_field bytes ≡ checksum_of read
  same_checksum =
      (one_fits read (checksum_field bytes) (number_below bytes 4 2 each (omega (arith, typed.0.0.0.0.0)))).0
      (rw same_page typed.0.1)

  pub written_back : page read ≡ bytes
  unfolding page
  written_back = rw (← same_checksum) same_page

-- the counts by equations 6.1 and 6.2
pub cpus_counted : (bytes : List ℕ) (contents : Contents) → judged bytes ≡ accepted contents → cpu_offset bytes + cpu_size_field bytes * length contents.cpus ≡ memory_offset bytes
cpus_counted bytes contents e =
    let lays : LaysOut bytes = (typed_of bytes contents e).0.0.1 in
    rw (contents_of_lem bytes contents e, lays.cpu_part, lays.cpu_size_lem) (read_start bytes lays)

pub memories_counted : (bytes : List ℕ) (contents : Contents) → judged bytes ≡ accepted contents →
    memory_offset bytes + memory_size_field bytes * length contents.memories ≡ length_field bytes
memories_counted bytes contents e =
    let typed = typed_of bytes contents e in
    let lays : LaysOut bytes = typed.0.0.1 in
    rw (contents_of_lem bytes contents e, lays.memory_size_lem, typed.0.0.0.1) (omega (arith, read_start bytes lays, read_length bytes lays))

-- each of what stands at places that fit
each_spaced : {A : Type 0} (Holding : A → Type 0) (what : ℕ → A) (size most : ℕ) → ((at : ℕ) → at + size ≤ most → Holding (what at)) →
    (count at : ℕ) → at + size * count ≤ most → Each Holding (spaced what at size count)
unfolding spaced
each_spaced Holding what size most holds zero at fits = tt
each_spaced Holding what size most holds (suc count) at fits = (holds at (omega arith), each_spaced Holding what size most holds count (at + size) (omega arith))

-- the ten fields have their width
header_fit : (bytes : List ℕ) → AreBytes bytes → 56 ≤ length bytes → HeaderFits (header_at bytes)
header_fit bytes each long zero = number_below bytes 16 4 each (omega arith)
header_fit bytes each long (suc zero) = number_below bytes 20 4 each (omega arith)
header_fit bytes each long (suc (suc zero)) = number_below bytes 24 4 each (omega arith)
header_fit bytes each long (suc (suc (suc zero))) = number_below bytes 28 4 each (omega arith)
header_fit bytes each long (suc (suc (suc (suc zero)))) = number_below bytes 32 4 each (omega arith)
header_fit bytes each long (suc (suc (suc (suc (suc zero))))) = number_below bytes 36 4 each (omega arith)
header_fit bytes each long (suc (suc (suc (suc (suc (suc zero)))))) = number_below bytes 40 4 each (omega arith)
header_fit bytes each long (suc (suc (suc (suc (suc (suc (suc zero))))))) = number_below bytes 44 4 each (omega arith)
header_fit bytes each long (suc (suc (suc (suc (suc (suc (suc (suc zero)))))))) = number_below bytes 48 4 each (omega arith)
header_fit bytes each long (suc (suc (suc (suc (suc (suc (suc (suc (suc zero))))))))) = number_below bytes 52 4 each (omega arith)
header_fit bytes each long (suc (suc (suc (suc (suc (suc (suc (suc (suc (suc i)))))))))) = omega arith

-- what stands in bytes has its width
contents_fit : (bytes : List ℕ) → AreBytes bytes → 56 ≤ length bytes → LaysOut bytes → Fits (contents_of bytes)
unfolding contents_of
contents_fit bytes each long lays =
    record {
      header_fits = header_fit bytes each long;
      cpus_fit = each_spaced CpuFits (cpu_at bytes) 4 (length bytes) (λ at fits. cpu_fits bytes at each) (cpu_count bytes) 56 (omega (arith, lays));
      memories_fit = each_spaced MemoryFits (memory_at bytes) 24 (length bytes) (λ at fits. memory_fits bytes at each fits) (memory_count bytes) (memory_offset bytes) (omega (arith, lays));
    }

-- the contents of an accepted page have their widths
pub read_fits : (bytes : List ℕ) (contents : Contents) → AreBytes bytes → judged bytes ≡ accepted contents → Fits contents
read_fits bytes contents each e =
    let typed = typed_of bytes contents e in
    rw (contents_of_lem bytes contents e) (contents_fit bytes each typed.0.0.0.0.0 typed.0.0.1)
