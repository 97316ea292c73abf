-- Laws of a block: what its counts tell, and what its untyped part is on each way.
use Prim.Native.Nat.{ℕ, ◌+◌, ◌-◌, ◌*◌, ◌≤◌, ◌<◌}
use mathlib.Core.Path.{◌≡◌, sym, ◌∙◌}
use mathlib.Core.Bool.{Bool, true, false, not, and-false}
use mathlib.Core.List.{List, []}
use native.Mathlib.Nat.{add-sub_cancel_left}
use native.Mathlib.Numerals.{add-one}
use native.Mathlib.Omega.{arith}
use lib.Dec.{eqb, leb}
use lib.ListN.{length, take, drop, set, length-drop}
use lib.Seq.{get_or-drop, paste, paste-suc}
use borrow.Author.Tests.{eq-eqb, ne_eqb, leb-true, not-true, not-false}
use Rattle.words.specs.Sizes.{block_words}
use Rattle.interface.specs.Basics.{word}
use Rattle.interface.specs.Message.{head_words, payload_words, item_words, untyped_count, typed_count, payload_fits, untyped_part, untyped_copied}

-- both counts fit the payload
pub counts_fit : (word0 : ℕ) → payload_fits word0 ≡ true → untyped_count word0 + item_words * typed_count word0 ≤ payload_words
unfolding payload_fits
counts_fit word0 h = leb-true (untyped_count word0 + item_words * typed_count word0) payload_words h

pub fits_counts : (word0 untyped typed : ℕ) → untyped ≡ untyped_count word0 → typed ≡ typed_count word0 →
    leb (untyped + item_words * typed) payload_words ≡ payload_fits word0
unfolding payload_fits
fits_counts word0 untyped typed u t = rw (u, t)

-- the untyped part
pub untyped_other_length : (block : List ℕ) → (length block ≡ block_words → ⊥) → [] ≡ untyped_part block
unfolding untyped_part
untyped_other_length block n = rw (ne_eqb (length block) block_words n)

module _ (block : List ℕ) (fits : Bool) (is_fits : fits ≡ payload_fits (word block 0)) where
  pub untyped_too_long : not fits ≡ true → [] ≡ untyped_part block
  unfolding untyped_part
  untyped_too_long f = rw (sym is_fits, not-true fits f, and-false (eqb (length block) block_words))

  module _ (untyped : ℕ) (f : not fits ≡ false) (u : untyped ≡ untyped_count (word block 0)) (l : length block ≡ block_words) where
    pub untyped_there : take (head_words + untyped - head_words) (drop head_words block) ≡ untyped_part block
    unfolding untyped_part
    untyped_there = rw (add-sub_cancel_left head_words untyped, u, eq-eqb (length block) block_words l, sym is_fits, not-false fits f)

    pub untyped_ends : head_words + untyped ≤ length block
    untyped_ends = omega (arith, counts_fit (word block 0) (sym is_fits ∙ not-false fits f))

-- one more untyped word is copied
copied_next : {target : List ℕ} (target₀ source : List ℕ) (i : ℕ) → head_words + i < length source → head_words + i < length target₀ →
    target ≡ paste target₀ head_words (drop head_words source) i →
    set target (head_words + i) (word source (head_words + i)) ≡ paste target₀ head_words (drop head_words source) (i + 1)
copied_next target₀ source i s t e =
    let more : i < length (drop head_words source) = simp length-drop (omega arith) in
    rw (e, sym (get_or-drop head_words source i 0), add-one i) (paste-suc target₀ head_words (drop head_words source) i 0 t more)

pub copied_more : {target : List ℕ} (target₀ source : List ℕ) (at : ℕ) → head_words ≤ at → at < length source → at < length target₀ →
    target ≡ paste target₀ head_words (drop head_words source) (at - head_words) →
    set target at (word source at) ≡ paste target₀ head_words (drop head_words source) (at + 1 - head_words)
copied_more {target} target₀ source at h s t e =
    let here : head_words + (at - head_words) ≡ at = omega arith in
    let next : at - head_words + 1 ≡ at + 1 - head_words = omega arith in
    rw (here, next) at (copied_next target₀ source (at - head_words) (omega arith) (omega arith) e)

-- word 0 and the untyped words as the code copies them
pub is_copied : {block : List ℕ} (source target : List ℕ) (untyped : ℕ) → untyped ≡ untyped_count (word source 0) →
    block ≡ paste (set target 0 (word source 0)) head_words (drop head_words source) untyped → block ≡ untyped_copied source target
unfolding untyped_copied
is_copied source target untyped u e = rw u at e
