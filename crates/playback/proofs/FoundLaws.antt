-- What is found at a position of some bytes: by the code's tests, and what a whole record there tells.
use Prim.Native.Nat.{ℕ, suc, ◌+◌, ◌-◌, ◌≤◌, ◌<◌}
use mathlib.Core.Path.{◌≡◌, refl, sym, ap, ◌∙◌}
use mathlib.Core.Bool.{true}
use mathlib.Core.List.{List, ◌∷◌, ◌++◌}
use native.Mathlib.Omega.{arith}
use lib.ListN.{length, take, drop, get_or, length-drop, length-append, drop_of_length-le}
use lib.Seq.{drop-cons, drop-drop, length-take-le, take_at, take-add}
use borrow.Author.Tests.{eq-eqb, ne_eqb, lt-ltb, le-ltb}
use Rattle.interface.specs.Journal.{body_bytes, Beginning, empty, of_no_kind, cut_off, whole, beginning}
use Rattle.interface.proofs.Journal.JournalLaws.{IsRecord, whole_begins, NoRecord}
use Rattle.playback.specs.declared.Found.TheVariants.{Nothing, Unknown, Short, Whole}
use Rattle.playback.specs.Playing.{found_of, found_in, is_whole}

-- nothing past the end, and else by the kind that stands there
module _ (journal : List ℕ) (at : ℕ) where
  pub found_nothing : length journal ≤ at → Nothing ≡ found_in (drop at journal)
  unfolding beginning
  found_nothing past = rw (drop_of_length-le journal past)

  module _ (kind size : ℕ) (inside : at < length journal) (is_kind : kind ≡ get_or journal at 0) (is_size : size ≡ body_bytes kind) where
    begins : drop at journal ≡ kind ∷ drop (suc at) journal
    begins = rw is_kind (drop-cons journal at 0 inside)

    pub found_unknown : size ≡ 0 → Unknown kind ≡ found_in (drop at journal)
    unfolding beginning
    found_unknown none = rw (begins, ← is_size, eq-eqb size 0 none)

    module _ (some : size ≡ 0 → ⊥) where
      pub found_short : length journal - at ≤ size → Short ≡ found_in (drop at journal)
      unfolding beginning
      found_short short =
          let left = length-drop (suc at) journal in
          rw (begins, ← is_size, ne_eqb size 0 some, lt-ltb (length (drop (suc at) journal)) size (omega arith))

      pub found_whole : size < length journal - at → Whole kind size ≡ found_in (drop at journal)
      unfolding beginning
      found_whole fits =
          let left = length-drop (suc at) journal in
          rw (
            begins,
            ← is_size,
            ne_eqb size 0 some,
            le-ltb (length (drop (suc at) journal)) size (omega arith),
            length-take-le size (drop (suc at) journal) (omega arith),
          )

-- a whole record that is found: its body and the bytes after it
pub record FoundWhole (bytes : List ℕ) (kind size : ℕ) : Type 0 where
  pub body : List ℕ
  pub later : List ℕ
  pub is_record : IsRecord kind body
  pub is_size : length body ≡ size
  pub is_bytes : bytes ≡ kind ∷ (body ++ later)

whole_from : (bytes : List ℕ) (b : Beginning) (kind size : ℕ) → beginning bytes ≡ b → found_of b ≡ Whole kind size → FoundWhole bytes kind size
whole_from bytes empty kind size b e = let z : ◌≡◌ {A = ℕ} 0 1 = cc in absurd (omega arith)
whole_from bytes (of_no_kind other) kind size b e = let z : ◌≡◌ {A = ℕ} 0 1 = cc in absurd (omega arith)
whole_from bytes cut_off kind size b e = let z : ◌≡◌ {A = ℕ} 0 1 = cc in absurd (omega arith)
whole_from bytes (whole first body later) kind size b e =
    let kinds : first ≡ kind = cc in
    let sizes : length body ≡ size = cc in
    let begins = whole_begins bytes kind body later (b ∙ (rw kinds)) in
    record { body = body; later = later; is_record = begins.0; is_size = sizes; is_bytes = begins.1 }

pub whole_found : (bytes : List ℕ) (kind size : ℕ) → found_in bytes ≡ Whole kind size → FoundWhole bytes kind size
whole_found bytes kind size e = whole_from bytes (beginning bytes) kind size refl e

-- where none is found, none begins
pub not_whole : (bytes : List ℕ) → (is_whole (found_in bytes) ≡ true → ⊥) → NoRecord bytes
not_whole bytes none kind body later e = none (rw e)

-- a whole record at a position lies in the bytes, after the bytes before it
module _ (input : List ℕ) (at kind size : ℕ) (found : FoundWhole (drop at input) kind size) where
  pub whole_inside : at + 1 + size ≤ length input
  whole_inside =
      let long = ap length found.is_bytes in
      let parts = length-append found.body found.later in
      let left = length-drop at input in
      let same = found.is_size in omega arith

  after_kind : drop (at + 1) input ≡ found.body ++ found.later
  after_kind = sym (drop-drop 1 at input) ∙ ap (drop 1) found.is_bytes

  pub body_taken : take (at + 1 + size - (at + 1)) (drop (at + 1) input) ≡ found.body
  body_taken =
      let is_taken : at + 1 + size - (at + 1) ≡ size = omega arith in
      rw (is_taken, after_kind) (take_at found.body found.later size found.is_size)

  pub front_next : take (at + 1 + size) input ≡ take at input ++ (kind ∷ found.body)
  front_next =
      let regroup : at + 1 + size ≡ at + suc size = omega arith in
      let one : take (suc size) (drop at input) ≡ kind ∷ found.body =
      ap (take (suc size)) found.is_bytes ∙ ap (λ (l : List ℕ). kind ∷ l) (take_at found.body found.later size found.is_size) in
      rw (regroup, take-add at (suc size) input, one)
