-- Words of a body: at their place, past the body's end, and in the part that begins with them; and the words of a block in turn.
use Prim.Native.Nat.{ℕ, ◌+◌, ◌-◌, ◌*◌, ◌/◌, ◌≤◌, ◌<◌}
use mathlib.Core.Path.{◌≡◌, refl, sym, ◌∙◌}
use mathlib.Core.List.{List, [], ◌∷◌}
use native.Mathlib.Nat.{le_refl, le_of_eq}
use native.Mathlib.Numerals.{add-one}
use native.Mathlib.Omega.{arith}
use lib.ListN.{length, take, drop, set, length-drop, drop_of_length-le}
use lib.Seq.{take-suc-set, take_all}
use mir.Syntax.{w32}
use Rattle.std.specs.Int.{from_le_bytes}
use Rattle.endian.specs.Numbers.{little, number_at}
use Rattle.endian.proofs.NumberLaws.{number_of_four}
use Rattle.endian.proofs.LibraryLaws.{number_read}
use Rattle.interface.specs.Basics.{word, listed}
use Rattle.interface.specs.Journal.{body_word}

-- a word of a body is the number at four times its index
pub word_at : (body : List ℕ) (index r : ℕ) → r ≡ number_at body (4 * index) 4 → r ≡ body_word body index
unfolding body_word
word_at body index r e = e

-- the first word is that of the first four bytes, and a byte past the end is 0
pub first_of_four : (bytes : List ℕ) (a b c d r : ℕ) → a ≡ word bytes 0 → b ≡ word bytes 1 → c ≡ word bytes 2 → d ≡ word bytes 3 →
    r ≡ from_le_bytes w32 (a ∷ b ∷ c ∷ d ∷ []) → r ≡ body_word bytes 0
first_of_four bytes a b c d r ea eb ec ed er =
    let whole : r ≡ little (a ∷ b ∷ c ∷ d ∷ []) = er ∙ number_read w32 (a ∷ b ∷ c ∷ d ∷ []) (omega arith) refl in
    word_at bytes 0 r (number_of_four bytes 0 r (rw (whole, ea, eb, ec, ed)))

-- a word whose bytes are all past the end is 0
pub word_past_end : (body : List ℕ) (index : ℕ) → length body / 4 < index → 0 ≡ body_word body index
unfolding little number_at body_word
word_past_end body index l =
    let past : length body ≤ 4 * index = omega arith in
    rw (drop_of_length-le body past)

-- a word is the first of the part that begins with it
pub word_of_part : (body : List ℕ) (index r : ℕ) → r ≡ body_word (take (length body - 4 * index) (drop (4 * index) body)) 0 → r ≡ body_word body index
unfolding number_at body_word
word_of_part body index r e =
    let part = drop (4 * index) body in
    let whole : take (length body - 4 * index) part ≡ part = take_all (length body - 4 * index) part (rw (length-drop (4 * index) body) (le_refl _)) in
    rw whole at e

module _ (f : ℕ → ℕ) (block : List ℕ) where
  -- a store takes a block that begins with a function's first values to one that has a value more of them
  pub listed_more : (i value : ℕ) → i < length block → value ≡ f i → take i block ≡ listed i f → take (i + 1) (set block i value) ≡ listed (i + 1) f
  unfolding listed
  listed_more i value l e before = rw (add-one, take-suc-set block i value l, before, e)

  -- a block that is as long as the values are many is the list of them
  pub listed_all : (n : ℕ) → length block ≡ n → take n block ≡ listed n f → block ≡ listed n f
  listed_all n same all = sym (take_all n block (le_of_eq same)) ∙ all
