-- What the reader's tests say, and what it answers on each way out.
use Prim.Native.Nat.{ℕ, ◌+◌, ◌-◌, ◌*◌, ◌/◌, ◌%◌, ◌^◌, ◌≤◌, ◌<◌}
use mathlib.Core.Path.{◌≡◌, refl, sym, ap, ◌∙◌}
use mathlib.Core.Bool.{Bool, true, false, ◌&&◌, and-true}
use mathlib.Core.List.{List}
use native.Mathlib.Omega.{arith}
use lib.Dec.{eqb}
use lib.IntN.{ℤ}
use lib.ListN.{length, take}
use Rattle.std.specs.Prelude.{Some, Result, Ok, Err}
use Rattle.std.specs.Result.{result_ok}
use mir.Syntax.{w32}
use mir.Val.{of_z, to_z}
use mir.Facts.{of_z-to_z}
use borrow.Author.Tests.{le-leb, lt-leb, eq-eqb, ne_eqb}
use Rattle.endian.specs.Parts.{AreBytes}
use Rattle.endian.specs.Numbers.{number_at}
use Rattle.endian.specs.Runs.{spaced}
use Rattle.endian.proofs.NumberLaws.{number_below}
use Rattle.endian.proofs.RunLaws.{length_spaced}
use Rattle.hip_format.specs.Format.{signature, Contents, word_sum}
use Rattle.hip_format.specs.Reader.{length_field, cpu_offset, cpu_size_field, memory_offset, memory_size_field, header_at, cpu_at, memory_at, contents_of, same_bytes, layout_good, types_allowed, Judgement, refused, accepted, judged, summary, reading, cpu_of, memory_of}
use Rattle.hip_format.specs.Consequences.{LaysOut, Typed}
use Rattle.hip_format.specs.declared.Header.{Header}
use Rattle.hip_format.specs.declared.Cpu.{Cpu}
use Rattle.hip_format.specs.declared.Memory.{Memory}
use Rattle.hip_format.specs.declared.Refusal.{Refusal}
use Rattle.hip_format.specs.declared.Refusal.TheVariants.{Short, Signature, Length, Layout, Checksum, «Type»}
use Rattle.hip_format.specs.declared.Summary.{Summary}
use Rattle.hip_format.proofs.JudgeLaws.{fails, decides_layout, typed_of, contents_of_lem}
use Rattle.hip_format.proofs.BackLaws.{cpus_counted, memories_counted}
use Rattle.hip_format.proofs.DescriptorLaws.{cpu_stands, memory_stands}

-- the layout: a memory offset out of order, and otherwise five tests
pub layout_early : (bytes : List ℕ) (start : ℕ) → start ≡ memory_offset bytes → start < 56 → false ≡ layout_good bytes
layout_early bytes start e early = sym (fails (layout_good bytes) (decides_layout bytes) (λ (lays : LaysOut bytes). omega (arith, lays.after_cpus)))

pub layout_late : (bytes : List ℕ) (start : ℕ) → start ≡ memory_offset bytes → length bytes < start → false ≡ layout_good bytes
layout_late bytes start e late = sym (fails (layout_good bytes) (decides_layout bytes) (λ (lays : LaysOut bytes). omega (arith, lays.inside)))

pub layout_tested : (bytes : List ℕ) (start a b c : ℕ) → start ≡ memory_offset bytes → a ≡ cpu_offset bytes → b ≡ cpu_size_field bytes → c ≡ memory_size_field bytes →
    56 ≤ start → start ≤ length bytes →
    (eqb a 56 && eqb b 4 && eqb c 24 && eqb ((start - 56) % 4) 0 && eqb ((length bytes - start) % 24) 0) ≡ layout_good bytes
unfolding layout_good
layout_tested bytes start a b c es ea eb ec after inside =
    rw (ea, eb, ec, es) (rw (le-leb 56 (memory_offset bytes) (omega arith), le-leb (memory_offset bytes) (length bytes) (omega arith), and-true, and-true))

module _ (bytes : List ℕ) where
  -- a memory descriptor, number by number
  pub memory_read_lem : (at address size bits auxiliary : ℕ) (kind : ℤ) → address ≡ number_at bytes at 8 → size ≡ number_at bytes (at + 8) 8 → bits ≡ number_at bytes (at + 16) 4 →
      bits < 2 ^ 32 → kind ≡ to_z w32 bits → auxiliary ≡ number_at bytes (at + 20) 4 →
      ◌≡◌ {A = Memory} (record { address = address; size = size; kind = to_z w32 (of_z w32 kind); auxiliary = auxiliary }) (memory_at bytes at)
  memory_read_lem at address size bits auxiliary kind ea es eb fits ek ex =
      let again : of_z w32 (to_z w32 bits) ≡ bits = of_z-to_z {w = w32} {n = bits} (record { fits = fits }) in
      rw (ea, es, ex, ek, again, eb)

-- what the reader answers on each way out
module _ (bytes : List ℕ) where
  pub answers_short : length bytes < 56 → Err Short ≡ reading (judged bytes)
  unfolding judged
  answers_short short = rw (lt-leb 56 (length bytes) short)

  module _ (long : 56 ≤ length bytes) (is_Signed : Bool) (signed : is_Signed ≡ same_bytes (take 4 bytes) signature) where
    pub answers_signature : is_Signed ≡ false → Err Signature ≡ reading (judged bytes)
    unfolding judged
    answers_signature f = rw (le-leb 56 (length bytes) long, sym signed ∙ f)

    module _ (t2 : is_Signed ≡ true) (field : ℕ) (measured : field ≡ length_field bytes) where
      pub answers_length : (field ≡ length bytes → ⊥) → Err Length ≡ reading (judged bytes)
      unfolding judged
      answers_length f = rw (le-leb 56 (length bytes) long, sym signed ∙ t2, ne_eqb (length_field bytes) (length bytes) (λ (e : length_field bytes ≡ length bytes). f (measured ∙ e)))

      module _ (t3 : field ≡ length bytes) (is_laid_out : Bool) (laid_out : is_laid_out ≡ layout_good bytes) where
        pub answers_layout : is_laid_out ≡ false → Err Layout ≡ reading (judged bytes)
        unfolding judged
        answers_layout f =
            rw (le-leb 56 (length bytes) long, sym signed ∙ t2, eq-eqb (length_field bytes) (length bytes) (sym measured ∙ t3), sym laid_out ∙ f)

        module _ (t4 : is_laid_out ≡ true) (sum : ℕ) (summed : sum ≡ word_sum bytes % 65536) where
          pub answers_checksum : (sum ≡ 0 → ⊥) → Err Checksum ≡ reading (judged bytes)
          unfolding judged
          answers_checksum f =
              rw (
                le-leb 56 (length bytes) long,
                sym signed ∙ t2,
                eq-eqb (length_field bytes) (length bytes) (sym measured ∙ t3),
                sym laid_out ∙ t4,
                ne_eqb (word_sum bytes % 65536) 0 (λ (e : word_sum bytes % 65536 ≡ 0). f (summed ∙ e)),
              )

          module _ (t5 : sum ≡ 0) (start : ℕ) (begins : start ≡ memory_offset bytes) (are_allowed : Bool)
              (allowed : are_allowed ≡ types_allowed (spaced (memory_at bytes) start 24 ((length bytes - start) / 24))) where
            typed : are_allowed ≡ types_allowed (contents_of bytes).memories
            unfolding contents_of
            typed = rw begins at allowed

            pub answers_type : are_allowed ≡ false → Err «Type» ≡ reading (judged bytes)
            unfolding judged
            answers_type f =
                rw (
                  le-leb 56 (length bytes) long,
                  sym signed ∙ t2,
                  eq-eqb (length_field bytes) (length bytes) (sym measured ∙ t3),
                  sym laid_out ∙ t4,
                  eq-eqb (word_sum bytes % 65536) 0 (sym summed ∙ t5),
                  sym typed ∙ f,
                )

            pub answers_summary : are_allowed ≡ true → (header : Header) → header ≡ header_at bytes →
                Ok (record { header = header; cpus = (start - 56) / 4; memories = (length bytes - start) / 24 }) ≡ reading (judged bytes)
            unfolding judged contents_of
            answers_summary t header made =
                rw (
                  le-leb 56 (length bytes) long,
                  sym signed ∙ t2,
                  eq-eqb (length_field bytes) (length bytes) (sym measured ∙ t3),
                  sym laid_out ∙ t4,
                  eq-eqb (word_sum bytes % 65536) 0 (sym summed ∙ t5),
                  sym typed ∙ t,
                  length_spaced,
                  length_spaced,
                  made,
                  begins,
                )

-- where the memory descriptors of a page that is laid out begin and end
pub record Begins (bytes : List ℕ) (start : ℕ) : Type 0 where
  pub after_header : 56 ≤ start
  pub inside : start ≤ length bytes
  pub ends : start + 24 * ((length bytes - start) / 24) ≤ length bytes

pub begins : (bytes : List ℕ) (start : ℕ) (is_laid_out : Bool) → is_laid_out ≡ layout_good bytes → is_laid_out ≡ true → start ≡ memory_offset bytes → Begins bytes start
begins bytes start is_laid_out laid_out t e =
    let lays = (decides_layout bytes).tells (sym laid_out ∙ t) in
    record { after_header = omega (arith, lays); inside = omega (arith, lays); ends = omega (arith, lays) }

-- what an answer tells of the bytes: why they are refused, or that they are a page with so many descriptors
pub record Accepts (bytes : List ℕ) (summary : Summary) : Type 0 where
  pub is_page : judged bytes ≡ accepted (contents_of bytes)
  pub header_read : summary.header ≡ (contents_of bytes).header
  pub cpus_end : 56 + 4 * summary.cpus ≡ memory_offset bytes
  pub memories_end : memory_offset bytes + 24 * summary.memories ≡ length bytes
  pub cpus_read : length (contents_of bytes).cpus ≡ summary.cpus
  pub memories_read : length (contents_of bytes).memories ≡ summary.memories

pub refuses : (bytes : List ℕ) (refusal : Refusal) (answer : Result Summary Refusal) → answer ≡ reading (judged bytes) → answer ≡ Err refusal → judged bytes ≡ refused refusal
refuses bytes refusal answer e a = go (judged bytes) refl
  where
    go : (judgement : Judgement) → judged bytes ≡ judgement → judged bytes ≡ refused refusal
    go (refused why) j = let same : reading (judged bytes) ≡ Err why = ap reading j in cc
    go (accepted contents) j = let same : reading (judged bytes) ≡ Ok (summary contents) = ap reading j in cc

pub accepts : (bytes : List ℕ) (found : Summary) (answer : Result Summary Refusal) → answer ≡ reading (judged bytes) → answer ≡ Ok found → Accepts bytes found
accepts bytes found answer e a = go (judged bytes) refl
  where
    go : (judgement : Judgement) → judged bytes ≡ judgement → Accepts bytes found
    go (refused why) j = let same : reading (judged bytes) ≡ Err why = ap reading j in let never : ◌≡◌ {A = ℕ} 0 1 = cc in absurd (omega arith)
    go (accepted contents) j =
        let same : reading (judged bytes) ≡ Ok (summary contents) = ap reading j in
        let told : found ≡ summary contents = cc in
        let standing : contents ≡ contents_of bytes = contents_of_lem bytes contents j in
        let typed : Typed bytes = typed_of bytes contents j in
        let lays : LaysOut bytes = typed.0.0.1 in
        let cpus : found.cpus ≡ length contents.cpus = ap (λ (s : Summary). s.cpus) told in
        let memories : found.memories ≡ length contents.memories = ap (λ (s : Summary). s.memories) told in
        record {
          is_page = j ∙ ap accepted standing;
          header_read = ap (λ (s : Summary). s.header) told ∙ ap (λ (c : Contents). c.header) standing;
          cpus_end = rw (lays.cpu_part, lays.cpu_size_lem, ← cpus) at (cpus_counted bytes contents j);
          memories_end = (rw (lays.memory_size_lem, ← memories) at (memories_counted bytes contents j)) ∙ typed.0.0.0.1;
          cpus_read = sym (cpus ∙ ap (λ (c : Contents). length c.cpus) standing);
          memories_read = sym (memories ∙ ap (λ (c : Contents). length c.memories) standing);
        }

-- the summary that a reading has is that of an accepted page
pub accepts_some : {bytes : List ℕ} {found : Summary} (answer : Result Summary Refusal) → answer ≡ reading (judged bytes) → result_ok answer ≡ Some found → Accepts bytes found
accepts_some {bytes} {found} (Ok summary) e some = accepts bytes found (Ok summary) e cc
accepts_some (Err refusal) e some = cc

-- the descriptor of an index
module _ (bytes : List ℕ) (index : ℕ) where
  module _ {summary : Summary} (page : Accepts bytes summary) where
    pub cpu_found : (cpu : Cpu) → index < summary.cpus → cpu ≡ cpu_at bytes (56 + 4 * index) → Some cpu ≡ cpu_of (judged bytes) index
    cpu_found cpu inside e =
        ap Some e ∙ sym (cpu_stands bytes (contents_of bytes) index page.is_page (rw page.cpus_read inside))

    pub memory_found : (start : ℕ) (memory : Memory) → index < summary.memories → start ≡ memory_offset bytes → memory ≡ memory_at bytes (start + 24 * index) →
        Some memory ≡ memory_of (judged bytes) index
    memory_found start memory inside begin e =
        ap Some (rw begin at e) ∙ sym (memory_stands bytes (contents_of bytes) index page.is_page (rw page.memories_read inside))

-- a page is no longer than its length field can say
pub short_page : (bytes : List ℕ) (found : Summary) → AreBytes bytes → Accepts bytes found → length bytes < 65536
short_page bytes found each page =
    let typed : Typed bytes = typed_of bytes (contents_of bytes) page.is_page in
    omega (arith, number_below bytes 6 2 each (omega (arith, typed.0.0.0.0.0)), typed.0.0.0.1)
