-- The descriptors of a page by their index.
use Prim.Native.Nat.{ℕ, zero, suc, ◌+◌, ◌*◌, ◌≤◌, ◌<◌}
use mathlib.Core.Path.{◌≡◌, refl, sym, ap, ◌∙◌}
use mathlib.Core.Bool.{true}
use mathlib.Core.List.{List, [], ◌∷◌}
use native.Mathlib.Omega.{arith}
use lib.ListN.{length}
use Rattle.std.specs.Prelude.{slice_get, Some, None}
use Rattle.std.proofs.lemmas.Option.{slice_get_past}
use Rattle.endian.specs.Runs.{spaced}
use Rattle.endian.proofs.RunLaws.{length_spaced}
use Rattle.hip_format.specs.Format.{type_allowed, Contents}
use Rattle.hip_format.specs.Reader.{memory_offset, cpu_at, memory_at, cpu_count, memory_count, contents_of, types_allowed, Judgement, refused, accepted, judged, cpu_of, memory_of}
use Rattle.hip_format.specs.declared.Memory.{Memory}
use Rattle.hip_format.specs.declared.Refusal.{Refusal}
use Rattle.hip_format.proofs.JudgeLaws.{typed_of, contents_of_lem}
use Rattle.hip_format.proofs.FieldLaws.{and_left, and_right}

-- the one of an index among those at places a distance apart
get_spaced : {A : Type 0} (what : ℕ → A) (count at distance index : ℕ) → index < count → slice_get (spaced what at distance count) index ≡ Some (what (at + distance * index))
unfolding spaced
get_spaced what zero at distance index inside = absurd (omega arith)
get_spaced what (suc count) at distance zero inside =
    let same : at + distance * 0 ≡ at = omega arith in
    rw same
get_spaced what (suc count) at distance (suc index) inside =
    let same : at + distance + distance * index ≡ at + distance * suc index = omega arith in
    get_spaced what count (at + distance) distance index (omega arith) ∙ (rw same)

module _ (bytes : List ℕ) (contents : Contents) (index : ℕ) (is_page : judged bytes ≡ accepted contents) where
  cpus_spaced : contents.cpus ≡ spaced (cpu_at bytes) 56 4 (cpu_count bytes)
  unfolding contents_of
  cpus_spaced = ap (λ (c : Contents). c.cpus) (contents_of_lem bytes contents is_page)

  memories_spaced : contents.memories ≡ spaced (memory_at bytes) (memory_offset bytes) 24 (memory_count bytes)
  unfolding contents_of
  memories_spaced = ap (λ (c : Contents). c.memories) (contents_of_lem bytes contents is_page)

  pub cpu_stands : index < length contents.cpus → cpu_of (judged bytes) index ≡ Some (cpu_at bytes (56 + 4 * index))
  cpu_stands inside =
      let count : length contents.cpus ≡ cpu_count bytes = ap length cpus_spaced ∙ length_spaced (cpu_at bytes) 56 4 (cpu_count bytes) in
      rw (is_page, cpus_spaced) (get_spaced (cpu_at bytes) (cpu_count bytes) 56 4 index (omega arith))

  pub memory_stands : index < length contents.memories → memory_of (judged bytes) index ≡ Some (memory_at bytes (memory_offset bytes + 24 * index))
  memory_stands inside =
      let count : length contents.memories ≡ memory_count bytes = ap length memories_spaced ∙ length_spaced (memory_at bytes) (memory_offset bytes) 24 (memory_count bytes) in
      rw (is_page, memories_spaced) (get_spaced (memory_at bytes) (memory_count bytes) (memory_offset bytes) 24 index (omega arith))

  pub no_cpu_lem : length contents.cpus ≤ index → cpu_of (judged bytes) index ≡ None
  no_cpu_lem past = rw is_page (slice_get_past contents.cpus index past)

  pub no_memory_lem : length contents.memories ≤ index → memory_of (judged bytes) index ≡ None
  no_memory_lem past = rw is_page (slice_get_past contents.memories index past)

-- a refused page has none
pub none_refused : (bytes : List ℕ) (refusal : Refusal) (index : ℕ) → judged bytes ≡ refused refusal →
    (cpu_of (judged bytes) index ≡ None) × (memory_of (judged bytes) index ≡ None)
none_refused bytes refusal index e = (rw e, rw e)

-- a memory descriptor that is found has a type that is allowed
nth_allowed : (memories : List Memory) (index : ℕ) (memory : Memory) → types_allowed memories ≡ true →
    slice_get memories index ≡ Some memory → type_allowed memory.kind ≡ true
unfolding types_allowed
nth_allowed [] index memory t e = let never : ◌≡◌ {A = ℕ} 0 1 = cc in absurd (omega arith)
nth_allowed (first ∷ memories) zero memory t e = let same : first ≡ memory = cc in rw (sym same) (and_left (type_allowed first.kind) (types_allowed memories) t)
nth_allowed (first ∷ memories) (suc index) memory t e = nth_allowed memories index memory (and_right (type_allowed first.kind) (types_allowed memories) t) e

pub found_allowed : (bytes : List ℕ) (index : ℕ) (memory : Memory) → memory_of (judged bytes) index ≡ Some memory → type_allowed memory.kind ≡ true
found_allowed bytes index memory e = go (judged bytes) refl
  where
    go : (judgement : Judgement) → judged bytes ≡ judgement → type_allowed memory.kind ≡ true
    go (refused refusal) j =
        let none : memory_of (judged bytes) index ≡ None = ap (λ (j : Judgement). memory_of j index) j in
        let never : ◌≡◌ {A = ℕ} 0 1 = cc in
        absurd (omega arith)
    go (accepted contents) j =
        let allowed : types_allowed contents.memories ≡ true = rw (sym (contents_of_lem bytes contents j)) at (typed_of bytes contents j).1 in
        nth_allowed contents.memories index memory allowed (ap (λ (j : Judgement). memory_of j index) (sym j) ∙ e)
