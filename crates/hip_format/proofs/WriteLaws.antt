-- What writing comes to, by its tests, and what is written.
use Prim.Native.Nat.{ℕ, ◌≤◌, ◌<◌}
use mathlib.Core.Path.{◌≡◌, refl, sym, ap, ◌∙◌}
use mathlib.Core.Logic.{◌↔◌}
use mathlib.Core.Bool.{Bool, true, false, cond, not}
use mathlib.Core.List.{List, ◌++◌}
use native.Mathlib.Omega.{arith}
use lib.Dec.{ltb}
use lib.ListN.{length, take, drop}
use lib.Seq.{take_at}
use borrow.Author.Tests.{ltb-true, ltb-false, lt-ltb, le-ltb}
use Rattle.endian.specs.Parts.{AreBytes}
use Rattle.endian.proofs.NumberLaws.{number_below}
use Rattle.hip_format.specs.Format.{greatest_length, Contents, page_length, checksum_of, page}
use Rattle.hip_format.specs.Reader.{types_allowed, accepted, judged}
use Rattle.hip_format.specs.Writer.{Writing, writing}
use Rattle.hip_format.specs.Consequences.{Fits}
use Rattle.std.specs.Prelude.{Result, Ok, Err}
use Rattle.hip_format.specs.declared.WriteRefusal.{WriteRefusal}
use Rattle.hip_format.specs.declared.WriteRefusal.TheVariants.{«Type», Large, Room}
use Rattle.hip_format.proofs.PageLaws.{length_page}
use Rattle.hip_format.proofs.JudgeLaws.{typed_of, contents_of_lem}
use Rattle.hip_format.proofs.BackLaws.{reads_back, read_length, written_back}

-- a page has its length
pub length_whole : (contents : Contents) → length (page contents) ≡ page_length contents
unfolding page
length_whole contents = length_page (checksum_of contents) contents

module _ (contents : Contents) (buffer : List ℕ) where
  -- the three tests, and the page where none refuses
  abbrev allowed : Bool
  allowed = types_allowed contents.memories

  abbrev too_large : Bool
  too_large = ltb greatest_length (page_length contents)

  abbrev no_space : Bool
  no_space = ltb (length buffer) (page_length contents)

  abbrev left : WriteRefusal → Writing
  left refusal = record { answer = Err refusal; buffer = buffer }

  abbrev done : Writing
  done = record { answer = Ok (page_length contents); buffer = page contents ++ drop (page_length contents) buffer }

  abbrev in_turn : Bool → Bool → Bool → Writing
  in_turn t l s = cond (not t) (left «Type») (cond l (left Large) (cond s (left Room) done))

  writing_in_turn : writing contents buffer ≡ in_turn allowed too_large no_space
  unfolding writing
  writing_in_turn = refl

  -- what an answer tells of the tests
  abbrev Told : Result ℕ WriteRefusal → Bool → Bool → Bool → Type 0
  Told (Err «Type») t l s = t ≡ false
  Told (Err Large) t l s = (t ≡ true) × (l ≡ true)
  Told (Err Room) t l s = (t ≡ true) × (l ≡ false) × (s ≡ true)
  Told (Ok count) t l s = (t ≡ true) × (l ≡ false) × (s ≡ false) × (count ≡ page_length contents)

  told : (t l s : Bool) → Told (in_turn t l s).answer t l s
  told false l s = refl
  told true true s = (refl, refl)
  told true false true = (refl, refl, refl)
  told true false false = (refl, refl, refl, refl)

  tells : {answer : Result ℕ WriteRefusal} → (writing contents buffer).answer ≡ answer → Told answer allowed too_large no_space
  tells {answer} e = rw (ap (λ (w : Writing). w.answer) (sym writing_in_turn) ∙ e) at (told allowed too_large no_space)

  pub refused_type : ((writing contents buffer).answer ≡ Err «Type») ↔ (types_allowed contents.memories ≡ false)
  refused_type = (λ e. tells e, λ f. ap (λ (w : Writing). w.answer) writing_in_turn ∙ (rw f))

  pub refused_large : ((writing contents buffer).answer ≡ Err Large) ↔ ((types_allowed contents.memories ≡ true) × (65535 < page_length contents))
  refused_large = (
    λ e. let t = tells e in (t.0, ltb-true greatest_length (page_length contents) t.1),
    λ facts. ap (λ (w : Writing). w.answer) writing_in_turn ∙ (rw (facts.0, lt-ltb greatest_length (page_length contents) facts.1)),
  )

  pub refused_room : ((writing contents buffer).answer ≡ Err Room) ↔ ((types_allowed contents.memories ≡ true) × (page_length contents ≤ 65535) × (length buffer < page_length contents))
  refused_room = (
    λ e. let t = tells e in
        (t.0, ltb-false greatest_length (page_length contents) t.1, ltb-true (length buffer) (page_length contents) t.2),
    λ facts. ap (λ (w : Writing). w.answer) writing_in_turn ∙
        (rw (facts.0, le-ltb greatest_length (page_length contents) facts.1, lt-ltb (length buffer) (page_length contents) facts.2)),
  )

  -- a refused write leaves the buffer
  pub buffer_stays : ((count : ℕ) → (writing contents buffer).answer ≡ Ok count → ⊥) → (writing contents buffer).buffer ≡ buffer
  buffer_stays not_done = ap (λ (w : Writing). w.buffer) writing_in_turn ∙ stays allowed too_large no_space (λ count e. not_done count (ap (λ (w : Writing). w.answer) writing_in_turn ∙ e))
    where
      stays : (t l s : Bool) → ((count : ℕ) → (in_turn t l s).answer ≡ Ok count → ⊥) → (in_turn t l s).buffer ≡ buffer
      stays false l s not_done = refl
      stays true true s not_done = refl
      stays true false true not_done = refl
      stays true false false not_done = absurd (not_done (page_length contents) refl)

  -- and one that no test refuses puts the page at the start
  pub written_good : types_allowed contents.memories ≡ true → page_length contents ≤ 65535 → page_length contents ≤ length buffer → writing contents buffer ≡ done
  written_good t small room = writing_in_turn ∙ (rw (t, le-ltb greatest_length (page_length contents) small, le-ltb (length buffer) (page_length contents) room))

-- what is written reads back equal
pub written_reads : (contents : Contents) (buffer : List ℕ) (count : ℕ) → Fits contents → (writing contents buffer).answer ≡ Ok count →
    judged (take count (writing contents buffer).buffer) ≡ accepted contents
written_reads contents buffer count fits e =
    let t = tells contents buffer e in
    let small : page_length contents ≤ greatest_length = ltb-false greatest_length (page_length contents) t.1 in
    let room : page_length contents ≤ length buffer = ltb-false (length buffer) (page_length contents) t.2 in
    let front : take (page_length contents) (page contents ++ drop (page_length contents) buffer) ≡ page contents =
    take_at (page contents) (drop (page_length contents) buffer) (page_length contents) (length_whole contents) in
    rw (t.3, written_good contents buffer t.0 small room, front) (reads_back contents fits t.0 small)

-- an accepted page is written back byte for byte
pub same_written : (bytes : List ℕ) (contents : Contents) (buffer : List ℕ) → AreBytes bytes → judged bytes ≡ accepted contents → length bytes ≤ length buffer →
    writing contents buffer ≡ record { answer = Ok (length bytes); buffer = bytes ++ drop (length bytes) buffer }
same_written bytes contents buffer each e room =
    let typed = typed_of bytes contents e in
    let same = contents_of_lem bytes contents e in
    let size : page_length contents ≡ length bytes = (rw same (read_length bytes typed.0.0.1)) in
    let small : page_length contents ≤ 65535 = omega (arith, size, number_below bytes 6 2 each (omega (arith, typed.0.0.0.0.0)), typed.0.0.0.1) in
    let kinds : types_allowed contents.memories ≡ true = rw same typed.1 in
    let again : page contents ≡ bytes = rw same (written_back bytes each typed) in
    written_good contents buffer kinds small (omega arith) ∙ (rw (size, again))
