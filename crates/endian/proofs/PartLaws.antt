-- Parts of lists, and bytes written one after the other.
use Prim.Native.Nat.{ℕ, zero, suc, ◌+◌, ◌≤◌, ◌<◌}
use mathlib.Core.Path.{◌≡◌, sym, ap, ◌∙◌}
use mathlib.Core.List.{List, [], ◌∷◌, ◌++◌, append_assoc, append-nil}
use native.Mathlib.Nat.{add_assoc, add-zero}
use native.Mathlib.Numerals.{add-one}
use native.Mathlib.Omega.{arith}
use lib.ListN.{length, take, drop, get_or, set, length-append, length-drop, take-append-drop}
use lib.Seq.{drop-cons, length-take-le, take_at, drop_at, drop-drop, set_split, append_snoc, take-add, take-length, get_or-drop, paste, paste-suc}
use Rattle.endian.specs.Parts.{AreBytes, part, written}

-- the front of bytes is bytes
take_bytes : (size : ℕ) (bytes : List ℕ) → AreBytes bytes → AreBytes (take size bytes)
take_bytes zero bytes each i = omega arith
take_bytes (suc size) [] each i = omega arith
take_bytes (suc size) (byte ∷ bytes) each zero = each 0
take_bytes (suc size) (byte ∷ bytes) each (suc i) = take_bytes size bytes (λ k. each (suc k)) i

-- and so is a part
pub part_bytes : (bytes : List ℕ) (at size : ℕ) → AreBytes bytes → AreBytes (part bytes at size)
part_bytes bytes at size each = take_bytes size (drop at bytes) (λ i. rw (get_or-drop at bytes i 0) (each (at + i)))

-- bytes after bytes are bytes
pub append_bytes : (first second : List ℕ) → AreBytes first → AreBytes second → AreBytes (first ++ second)
append_bytes [] second one two i = two i
append_bytes (byte ∷ first) second one two zero = one 0
append_bytes (byte ∷ first) second one two (suc i) = append_bytes first second (λ k. one (suc k)) two i

-- a part has its size where the list has it whole
pub length_part : (bytes : List ℕ) (at size : ℕ) → at + size ≤ length bytes → length (part bytes at size) ≡ size
length_part bytes at size fits = length-take-le size (drop at bytes) (rw (length-drop at bytes) (omega arith))

-- a part is its front and the part after that
pub part_add : (bytes : List ℕ) (at first second : ℕ) → part bytes at (first + second) ≡ part bytes at first ++ part bytes (at + first) second
part_add bytes at first second = take-add first second (drop at bytes) ∙ ap (λ (rest : List ℕ). part bytes at first ++ take second rest) (drop-drop first at bytes)

-- a part begins with the byte at its place
part_cons : (bytes : List ℕ) (at size : ℕ) → at < length bytes → part bytes at (suc size) ≡ get_or bytes at 0 ∷ part bytes (at + 1) size
part_cons bytes at size inside = rw (drop-cons bytes at 0 inside, add-one)

-- and is its four bytes where it has so many
pub part_four : (bytes : List ℕ) (at : ℕ) → at + 4 ≤ length bytes → part bytes at 4 ≡ get_or bytes at 0 ∷ get_or bytes (at + 1) 0 ∷ get_or bytes (at + 2) 0 ∷ get_or bytes (at + 3) 0 ∷ []
part_four bytes at fits =
    let two : at + 1 + 1 ≡ at + 2 = omega arith in
    let three : at + 2 + 1 ≡ at + 3 = omega arith in
    rw (part_cons bytes at 3 (omega arith), part_cons bytes (at + 1) 2 (omega arith), two, part_cons bytes (at + 2) 1 (omega arith), three, part_cons bytes (at + 3) 0 (omega arith))

module _ (list : List ℕ) (at : ℕ) (fits : at ≤ length list) where
  -- what ends with the bytes written
  length_head : (bytes : List ℕ) → length (take at list ++ bytes) ≡ at + length bytes
  length_head bytes = length-append (take at list) bytes ∙ ap (λ (k : ℕ). k + length bytes) (length-take-le at list fits)

  -- bytes written after others
  pub written_then : (first second : List ℕ) → written (written list at first) (at + length first) second ≡ written list at (first ++ second)
  written_then first second =
      let head = take at list ++ first in
      let end = at + length first in
      let whole = written list at first in
      let start : take end whole ≡ head = take_at head (drop end list) end (length_head first) in
      let rest : drop (end + length second) whole ≡ drop (end + length second) list =
      sym (drop-drop (length second) end whole) ∙ ap (drop (length second)) (drop_at head (drop end list) end (length_head first)) ∙ drop-drop (length second) end list in
      rw (start, rest, length-append first second, append_assoc (take at list) first second, add_assoc at (length first) (length second))

  -- what was written leaves the length
  pub length_written : (bytes : List ℕ) → at + length bytes ≤ length list → length (written list at bytes) ≡ length list
  length_written bytes room =
      length-append (take at list ++ bytes) (drop (at + length bytes) list) ∙ (rw (length_head bytes, length-drop (at + length bytes) list) (omega arith))

-- no bytes written leave a list as it is
pub written_nothing : (list : List ℕ) (at : ℕ) → list ≡ written list at []
written_nothing list at = sym (take-append-drop at list) ∙ (rw (append-nil (take at list), add-zero at))

-- one byte stored is a list of one byte written
pub byte_written : (list : List ℕ) (at byte : ℕ) → at < length list → set list at byte ≡ written list at (byte ∷ [])
byte_written list at byte l = set_split list at byte l ∙ sym (append_snoc (take at list) byte (drop (suc at) list)) ∙ ap (λ (k : ℕ). take at list ++ (byte ∷ []) ++ drop k list) (sym (add-one at))

-- a turn of the loop that copies bytes
pub copied_more : (before bytes after : List ℕ) (at i : ℕ) → at + i < length before → i < length bytes → after ≡ paste before at bytes i →
    set after (at + i) (get_or bytes i 0) ≡ paste before at bytes (i + 1)
copied_more before bytes after at i room more e = rw (e, add-one) (paste-suc before at bytes i 0 room more)

-- bytes that are copied to the last one are written
pub copied_whole : (before bytes after : List ℕ) (at i : ℕ) → i ≡ length bytes → after ≡ paste before at bytes i → after ≡ written before at bytes
copied_whole before bytes after at i whole e = e ∙ (rw (whole, take-length bytes))
