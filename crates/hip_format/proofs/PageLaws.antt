-- A page reads as what it was made of, and is made again of what it reads as.
use Prim.Native.Nat.{ℕ, ◌+◌, ◌*◌, ◌≤◌, ◌<◌}
use mathlib.Core.Path.{◌≡◌, refl, sym, ap, ◌∙◌}
use mathlib.Core.Bool.{true}
use mathlib.Core.List.{List, [], ◌∷◌, ◌++◌, append_assoc, append-nil}
use native.Mathlib.Omega.{arith}
use lib.ListN.{length, get_or, length-append}
use Rattle.endian.specs.Numbers.{bytes_of}
use Rattle.endian.specs.Runs.{bytes_of_each, spaced, numbers_at, Each}
use Rattle.endian.proofs.NumberLaws.{length_bytes}
use Rattle.endian.proofs.RunLaws.{length_each, read_each, read_numbers}
use Rattle.hip_format.specs.Format.{signature, type_allowed, greatest_length, Contents, fields, cpu_bytes, memory_bytes, memory_start, page_length, short_fields, page_with}
use Rattle.hip_format.specs.Reader.{header_at, cpu_at, memory_at, types_allowed}
use Rattle.hip_format.specs.Consequences.{CpuFits, MemoryFits, Fits}
use Rattle.hip_format.specs.declared.Header.{Header}
use Rattle.hip_format.specs.declared.Memory.{Memory}
use Rattle.hip_format.proofs.FieldLaws.{and_left, and_right, length_memory, cpu_back, MemoryGood, memory_back}

-- a header is its ten fields
same_header : (a b : Header) → fields a ≡ fields b → a ≡ b
same_header a b e = ap header_of e
  where
    header_of : List ℕ → Header
    header_of l =
        record {
          features = get_or l 0 0;
          version = get_or l 1 0;
          sel = get_or l 2 0;
          exc = get_or l 3 0;
          vmi = get_or l 4 0;
          gsi = get_or l 5 0;
          pages = get_or l 6 0;
          utcbs = get_or l 7 0;
          tsc = get_or l 8 0;
          bus = get_or l 9 0;
        }

-- the ten fields stand at places of four bytes
pub fields_spaced : (bytes : List ℕ) → fields (header_at bytes) ≡ numbers_at bytes 16 4 10
unfolding spaced
fields_spaced bytes = refl

-- descriptors that fit and whose types are allowed are good
all_good : (memories : List Memory) → Each MemoryFits memories → types_allowed memories ≡ true → Each MemoryGood memories
unfolding types_allowed
all_good [] each allowed = tt
all_good (memory ∷ memories) each allowed =
    let first = type_allowed memory.kind in
    let others = types_allowed memories in
    (record { fits = each.0; allowed = and_left first others allowed }, all_good memories each.1 (and_right first others allowed))

module _ (checksum : ℕ) (contents : Contents) where
  abbrev shorts : List ℕ
  shorts = bytes_of_each (bytes_of 2) (short_fields checksum contents)

  abbrev longs : List ℕ
  longs = bytes_of_each (bytes_of 4) (fields contents.header)

  abbrev cpus : List ℕ
  cpus = bytes_of_each cpu_bytes contents.cpus

  abbrev memories : List ℕ
  memories = bytes_of_each memory_bytes contents.memories

  length_shorts : length shorts ≡ 12
  length_shorts = length_each (bytes_of 2) 2 (length_bytes 2) (short_fields checksum contents)

  length_longs : length longs ≡ 40
  length_longs = length_each (bytes_of 4) 4 (length_bytes 4) (fields contents.header)

  length_cpus : length cpus ≡ 4 * length contents.cpus
  length_cpus = length_each cpu_bytes 4 (λ one. refl) contents.cpus

  length_memories : length memories ≡ 24 * length contents.memories
  length_memories = length_each memory_bytes 24 length_memory contents.memories

  -- a page has its length
  pub length_page : length (page_with checksum contents) ≡ page_length contents
  unfolding page_with
  length_page =
      let one : length (longs ++ (cpus ++ memories)) ≡ length longs + (length cpus + length memories) = length-append longs (cpus ++ memories) ∙ (rw (length-append cpus memories)) in
      let two : length (shorts ++ (longs ++ (cpus ++ memories))) ≡ length shorts + (length longs + (length cpus + length memories)) = length-append shorts _ ∙ (rw one) in
      omega (arith, two, length_shorts, length_longs, length_cpus, length_memories)

  -- the page as its front, one of its four parts, and the rest
  from_longs : page_with checksum contents ≡ (signature ++ shorts) ++ (longs ++ (cpus ++ memories))
  unfolding page_with
  from_longs = sym (append_assoc signature shorts (longs ++ (cpus ++ memories)))

  from_cpus : page_with checksum contents ≡ ((signature ++ shorts) ++ longs) ++ (cpus ++ memories)
  from_cpus = from_longs ∙ sym (append_assoc (signature ++ shorts) longs (cpus ++ memories))

  from_memories : page_with checksum contents ≡ (((signature ++ shorts) ++ longs) ++ cpus) ++ (memories ++ [])
  from_memories =
      from_cpus ∙ sym (append_assoc ((signature ++ shorts) ++ longs) cpus memories) ∙ ap (λ (l : List ℕ). (((signature ++ shorts) ++ longs) ++ cpus) ++ l) (sym (append-nil memories))

  before_longs : length (signature ++ shorts) ≡ 16
  before_longs = length-append signature shorts ∙ (rw length_shorts)

  before_cpus : length ((signature ++ shorts) ++ longs) ≡ 56
  before_cpus = length-append (signature ++ shorts) longs ∙ (rw (before_longs, length_longs))

  before_memories : length (((signature ++ shorts) ++ longs) ++ cpus) ≡ memory_start contents
  before_memories = length-append ((signature ++ shorts) ++ longs) cpus ∙ (rw (before_cpus, length_cpus))

  -- the numbers of 16 bits that a page has
  pub reads_shorts : checksum < 65536 → page_length contents ≤ greatest_length →
      numbers_at (page_with checksum contents) 4 2 6 ≡ short_fields checksum contents
  unfolding page_with
  reads_shorts small short =
      read_numbers 2 (short_fields checksum contents) signature (longs ++ (cpus ++ memories)) 4 refl
      (small, (omega arith, (omega arith, (omega arith, (omega arith, (omega arith, tt))))))

  -- its header
  pub reads_header : Fits contents → header_at (page_with checksum contents) ≡ contents.header
  reads_header fits =
      let h = fits.header_fits in
      let each = read_numbers 4 (fields contents.header) (signature ++ shorts) (cpus ++ memories) 16 before_longs
      (h 0, (h 1, (h 2, (h 3, (h 4, (h 5, (h 6, (h 7, (h 8, (h 9, tt)))))))))) in
      rw from_longs (same_header _ _ (fields_spaced _ ∙ each))

  -- its CPU descriptors
  pub reads_cpus : Fits contents → spaced (cpu_at (page_with checksum contents)) 56 4 (length contents.cpus) ≡ contents.cpus
  reads_cpus fits =
      rw from_cpus
      (read_each CpuFits cpu_bytes cpu_at 4 (λ one. refl) (λ front rest at one place fits. cpu_back front rest at one place) contents.cpus ((signature ++ shorts) ++ longs) memories 56
      before_cpus fits.cpus_fit)

  -- its memory descriptors
  pub reads_memories : Fits contents → types_allowed contents.memories ≡ true →
      spaced (memory_at (page_with checksum contents)) (memory_start contents) 24 (length contents.memories) ≡ contents.memories
  reads_memories fits allowed =
      rw from_memories
      (read_each MemoryGood memory_bytes memory_at 24 length_memory memory_back contents.memories (((signature ++ shorts) ++ longs) ++ cpus) [] (memory_start contents) before_memories
      (all_good contents.memories fits.memories_fit allowed))
