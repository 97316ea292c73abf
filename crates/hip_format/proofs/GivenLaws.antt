-- What the writer is given.
use Prim.Native.Nat.{ℕ, ◌+◌, ◌*◌, ◌/◌, ◌≤◌, min}
use mathlib.Core.Path.{◌≡◌, refl}
use mathlib.Core.Logic.{◌↔◌}
use mathlib.Core.List.{List, [], ◌∷◌, ◌++◌, map, append_assoc, append-nil}
use native.Mathlib.Omega.{arith}
use lib.IntN.{ℤ, pos}
use lib.ListN.{length, take, get_or, length-map, length-append}
use Rattle.endian.specs.Runs.{bytes_of_each, spaced, Each}
use Rattle.endian.proofs.RunLaws.{length_spaced, write_each, read_each, length_each}
use Rattle.hip_format.specs.Format.{Contents, cpu_bytes}
use Rattle.hip_format.specs.Reader.{cpu_at}
use Rattle.hip_format.specs.Writer.{memory_given, shortest, given}
use Rattle.hip_format.specs.declared.Header.{Header}
use Rattle.hip_format.specs.declared.Cpu.{Cpu}
use Rattle.hip_format.specs.declared.Memory.{Memory}
use Rattle.hip_format.proofs.FieldLaws.{cpu_back, cpu_again}

module _ (header : Header) (cpus addresses sizes : List ℕ) (kinds : List ℤ) (auxiliaries : List ℕ) where
  pub given_count : length (given header cpus addresses sizes kinds auxiliaries).memories ≡ shortest addresses sizes kinds auxiliaries
  unfolding given
  given_count = length_spaced (memory_given addresses sizes kinds auxiliaries) 0 1 (shortest addresses sizes kinds auxiliaries)

  pub whole_cpus : bytes_of_each cpu_bytes (given header cpus addresses sizes kinds auxiliaries).cpus ≡ take (4 * (length cpus / 4)) cpus
  unfolding given
  whole_cpus = write_each cpu_bytes (cpu_at cpus) cpus 4 (cpu_again cpus) (length cpus / 4) 0 (omega arith)

pub at_most_shortest : (addresses sizes : List ℕ) (kinds : List ℤ) (auxiliaries : List ℕ) (most : ℕ) →
    (most ≤ shortest addresses sizes kinds auxiliaries) ↔ ((most ≤ length addresses) × (most ≤ length sizes) × (most ≤ length kinds) × (most ≤ length auxiliaries))
at_most_shortest addresses sizes kinds auxiliaries most = omega arith

-- the CPU descriptors of their bytes
cpus_given : (cpus : List Cpu) → spaced (cpu_at (bytes_of_each cpu_bytes cpus)) 0 4 (length (bytes_of_each cpu_bytes cpus) / 4) ≡ cpus
cpus_given cpus =
    let list = bytes_of_each cpu_bytes cpus in
    let size : length list ≡ 4 * length cpus = length_each cpu_bytes 4 (λ one. refl) cpus in
    let count : length list / 4 ≡ length cpus = rw size (omega arith) in
    let back = read_each (λ (cpu : Cpu). Unit {0}) cpu_bytes cpu_at 4 (λ one. refl) (λ front rest at one place holds. cpu_back front rest at one place) cpus [] [] 0 refl (units cpus) in
    rw count (rw (append-nil list) at back)
  where
    units : (cpus : List Cpu) → Each (λ (cpu : Cpu). Unit {0}) cpus
    units [] = tt
    units (cpu ∷ cpus) = (tt, units cpus)

-- a number of a descriptor among those of its list
mapped : {B : Type 0} (f : Memory → B) (front : List Memory) (memory : Memory) (rest : List Memory) (other : B) → get_or (map f (front ++ (memory ∷ rest))) (length front) other ≡ f memory
mapped f [] memory rest other = refl
mapped f (first ∷ front) memory rest other = mapped f front memory rest other

-- the memory descriptors of four lists that are made of descriptors
abbrev listed : List Memory → ℕ → Memory
listed memories =
    memory_given (map (λ (memory : Memory). memory.address) memories) (map (λ (memory : Memory). memory.size) memories) (map (λ (memory : Memory). memory.kind) memories)
    (map (λ (memory : Memory). memory.auxiliary) memories)

memories_given : (front memories : List Memory) → spaced (listed (front ++ memories)) (length front) 1 (length memories) ≡ memories
unfolding spaced
memories_given front [] = refl
memories_given front (memory ∷ memories) =
    let longer : length (front ++ (memory ∷ [])) ≡ length front + 1 = length-append front (memory ∷ []) in
    let again : (front ++ (memory ∷ [])) ++ memories ≡ front ++ (memory ∷ memories) = append_assoc front (memory ∷ []) memories in
    let others : spaced (listed (front ++ (memory ∷ memories))) (length front + 1) 1 (length memories) ≡ memories =
    rw (longer, again) at (memories_given (front ++ (memory ∷ [])) memories) in
    rw (
      mapped (λ (m : Memory). m.address) front memory memories 0,
      mapped (λ (m : Memory). m.size) front memory memories 0,
      mapped (λ (m : Memory). m.kind) front memory memories (pos 0),
      mapped (λ (m : Memory). m.auxiliary) front memory memories 0,
      others,
    )

pub all_given : (contents : Contents) →
    given contents.header (bytes_of_each cpu_bytes contents.cpus) (map (λ (memory : Memory). memory.address) contents.memories)
    (map (λ (memory : Memory). memory.size) contents.memories) (map (λ (memory : Memory). memory.kind) contents.memories)
    (map (λ (memory : Memory). memory.auxiliary) contents.memories) ≡
    contents
unfolding given
all_given contents =
    let memories = contents.memories in
    let count : min (min (length memories) (length memories)) (min (length memories) (length memories)) ≡ length memories = omega arith in
    rw (cpus_given contents.cpus) (simp length-map (rw (count, memories_given [] memories)))
