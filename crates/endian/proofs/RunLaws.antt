-- What stands at places a distance apart, and the bytes of each member of a list; items written one after the other, and numbers read and written in turn.
use Prim.Native.Nat.{ℕ, zero, suc, ◌+◌, ◌*◌, ◌^◌, ◌≤◌, ◌<◌}
use mathlib.Core.Path.{◌≡◌, refl, sym, ap, ◌∙◌}
use mathlib.Core.List.{List, [], ◌∷◌, ◌++◌, append_assoc, append-nil}
use native.Mathlib.Numerals.{add-one}
use native.Mathlib.Omega.{arith}
use lib.ListN.{length, take, drop, get_or, set, length-append}
use lib.Seq.{append_snoc, drop-cons, drop-length, length-take-le, set_at, take-length, take-suc}
use Rattle.endian.specs.Parts.{AreBytes, part, written}
use Rattle.endian.specs.Numbers.{bytes_of, number_at}
use Rattle.endian.specs.Runs.{bytes_of_each, spaced, numbers_at, Each}
use Rattle.endian.proofs.PartLaws.{part_add, written_nothing, written_then}
use Rattle.endian.proofs.NumberLaws.{length_bytes, number_back, bytes_at}

module _ {A : Type 0} where
  -- there are as many as were asked for
  pub length_spaced : (what : ℕ → A) (at distance count : ℕ) → length (spaced what at distance count) ≡ count
  unfolding spaced
  length_spaced what at distance zero = refl
  length_spaced what at distance (suc count) = ap suc (length_spaced what (at + distance) distance count)

  -- one more stands after the others
  pub spaced_more : (what : ℕ → A) (at distance count : ℕ) → spaced what at distance (suc count) ≡ spaced what at distance count ++ (what (at + distance * count) ∷ [])
  unfolding spaced
  spaced_more what at distance zero =
      let same : at + distance * 0 ≡ at = omega arith in
      rw same
  spaced_more what at distance (suc count) =
      let same : at + distance + distance * count ≡ at + distance * suc count = omega arith in
      ap (λ (l : List A). what at ∷ l) (spaced_more what (at + distance) distance count ∙ (rw same))

  -- the bytes of two lists
  pub each_append : (bytes : A → List ℕ) (first second : List A) → bytes_of_each bytes (first ++ second) ≡ bytes_of_each bytes first ++ bytes_of_each bytes second
  unfolding bytes_of_each
  each_append bytes [] second = refl
  each_append bytes (one ∷ first) second = rw (each_append bytes first second, append_assoc (bytes one))

  -- the bytes of one more
  pub each_more : (bytes : A → List ℕ) (list : List A) (one : A) → bytes_of_each bytes (list ++ (one ∷ [])) ≡ bytes_of_each bytes list ++ bytes one
  unfolding bytes_of_each
  each_more bytes [] one = append-nil (bytes one)
  each_more bytes (first ∷ list) one = rw (each_more bytes list one, append_assoc (bytes first))

  -- where each member has as many bytes as the others, so many times as many
  pub length_each : (bytes : A → List ℕ) (size : ℕ) → ((one : A) → length (bytes one) ≡ size) → (list : List A) → length (bytes_of_each bytes list) ≡ size * length list
  unfolding bytes_of_each
  length_each bytes size same [] = omega arith
  length_each bytes size same (one ∷ list) = rw (length-append (bytes one), same one, length_each bytes size same list) (omega arith)

  -- what is read where the bytes of a list stand is the list
  pub read_each : (Holding : A → Type 0) (bytes : A → List ℕ) (what : List ℕ → ℕ → A) (size : ℕ) → ((one : A) → length (bytes one) ≡ size) →
      ((front rest : List ℕ) (at : ℕ) (one : A) → length front ≡ at → Holding one → what (front ++ (bytes one ++ rest)) at ≡ one) →
      (list : List A) (front rest : List ℕ) (at : ℕ) → length front ≡ at → Each Holding list → spaced (what (front ++ (bytes_of_each bytes list ++ rest))) at size (length list) ≡ list
  unfolding bytes_of_each spaced
  read_each Holding bytes what size same back [] front rest at place each = refl
  read_each Holding bytes what size same back (one ∷ list) front rest at place each =
      let later = bytes_of_each bytes list ++ rest in
      let shape : front ++ ((bytes one ++ bytes_of_each bytes list) ++ rest) ≡ front ++ (bytes one ++ later) = ap (λ (l : List ℕ). front ++ l) (append_assoc (bytes one) (bytes_of_each bytes list) rest) in
      let again : front ++ (bytes one ++ later) ≡ (front ++ bytes one) ++ later = sym (append_assoc front (bytes one) later) in
      let longer : length (front ++ bytes one) ≡ at + size = length-append front (bytes one) ∙ (rw (place, same one)) in
      let others : spaced (what (front ++ (bytes one ++ later))) (at + size) size (length list) ≡ list =
      rw again (read_each Holding bytes what size same back list (front ++ bytes one) rest (at + size) longer each.1) in
      let whole = front ++ ((bytes one ++ bytes_of_each bytes list) ++ rest) in
      let first : what whole at ≡ one = rw shape (back front later at one place each.0) in
      let next : spaced (what whole) (at + size) size (length list) ≡ list = rw shape others in
      rw (first, next)

  -- the bytes of what is read at places of a list are the part of it there
  pub write_each : (bytes : A → List ℕ) (what : ℕ → A) (list : List ℕ) (size : ℕ) →
      ((at : ℕ) → at + size ≤ length list → bytes (what at) ≡ part list at size) →
      (count at : ℕ) → at + size * count ≤ length list → bytes_of_each bytes (spaced what at size count) ≡ part list at (size * count)
  unfolding bytes_of_each spaced
  write_each bytes what list size back zero at fits =
      let none : size * 0 ≡ 0 = omega arith in
      rw none
  write_each bytes what list size back (suc count) at fits =
      let more : size * suc count ≡ size + size * count = omega arith in
      rw (more, part_add list at size (size * count), back at (omega arith), write_each bytes what list size back count (at + size) (omega arith))

-- one more item is written after those before it
module _ {A : Type 0} (bytes : A → List ℕ) (size : ℕ) (same : (one : A) → length (bytes one) ≡ size) where
  pub item_more : (list after next : List ℕ) (at i : ℕ) (first : List A) (one : A) → length first ≡ i → at ≤ length list → after ≡ written list at (bytes_of_each bytes first) →
      next ≡ written after (at + size * i) (bytes one) → next ≡ written list at (bytes_of_each bytes (first ++ (one ∷ [])))
  item_more list after next at i first one count inside before now =
      let place : at + size * i ≡ at + length (bytes_of_each bytes first) = ap (λ (k : ℕ). at + k) (ap (λ (k : ℕ). size * k) (sym count) ∙ sym (length_each bytes size same first)) in
      now ∙ (rw (before, place, each_more bytes first one) (written_then list at inside (bytes_of_each bytes first) (bytes one)))

  -- the items of a list, written in turn
  module _ (list : List ℕ) (at : ℕ) (items : List A) where
    pub none_yet : list ≡ written list at (bytes_of_each bytes (take 0 items))
    unfolding bytes_of_each
    none_yet = written_nothing list at

    pub item_next : (after next : List ℕ) (i : ℕ) (one : A) → i < length items → one ≡ get_or items i one → at ≤ length list → after ≡ written list at (bytes_of_each bytes (take i items)) →
        next ≡ written after (at + size * i) (bytes one) → next ≡ written list at (bytes_of_each bytes (take (i + 1) items))
    item_next after next i one more is inside before now =
        let longer : take (i + 1) items ≡ take i items ++ (one ∷ []) = (rw (add-one, take-suc items i one more)) ∙ ap (λ (item : A). take i items ++ (item ∷ [])) (sym is) in
        rw longer (item_more list after next at i (take i items) one (length-take-le i items (omega arith)) inside before now)

    pub items_all : (after : List ℕ) (i : ℕ) → i ≡ length items → after ≡ written list at (bytes_of_each bytes (take i items)) → after ≡ written list at (bytes_of_each bytes items)
    items_all after i all e = e ∙ (rw (all, take-length items))

-- numbers of a width are read where their bytes stand
pub read_numbers : (width : ℕ) (list front rest : List ℕ) (at : ℕ) → length front ≡ at → Each (λ (n : ℕ). n < 256 ^ width) list →
    numbers_at (front ++ (bytes_of_each (bytes_of width) list ++ rest)) at width (length list) ≡ list
read_numbers width list front rest at place each =
    read_each (λ (n : ℕ). n < 256 ^ width) (bytes_of width) (λ b k. number_at b k width) width (length_bytes width)
    (λ front rest at one place small. number_back front rest at width one place small) list front rest at place each

-- each number of a list is its number at some index
each_at : (Holding : ℕ → Type 0) (list : List ℕ) → ((i : ℕ) → Holding (get_or list i 0)) → Each Holding list
each_at Holding [] holds = tt
each_at Holding (one ∷ list) holds = (holds 0, each_at Holding list (λ i. holds (suc i)))

-- numbers that fit are those that stand where their bytes do
pub numbers_back : (width : ℕ) (numbers front rest : List ℕ) → ((i : ℕ) → get_or numbers i 0 < 256 ^ width) →
    numbers_at (front ++ (bytes_of_each (bytes_of width) numbers ++ rest)) (length front) width (length numbers) ≡ numbers
numbers_back width numbers front rest small = read_numbers width numbers front rest (length front) refl (each_at (λ (n : ℕ). n < 256 ^ width) numbers small)

-- the bytes of the numbers that stand one after the other are the part of the bytes there
pub write_numbers : (width at count : ℕ) (bytes : List ℕ) → AreBytes bytes → at + width * count ≤ length bytes →
    bytes_of_each (bytes_of width) (numbers_at bytes at width count) ≡ part bytes at (width * count)
write_numbers width at count bytes each fits = write_each (bytes_of width) (λ k. number_at bytes k width) bytes width (λ k inside. bytes_at bytes k width each inside) count at fits

-- what stands at places a distance apart, read in turn into a list
module _ {A : Type 0} (what : ℕ → A) (at distance : ℕ) (list : List A) where
  pub none_read : list ≡ spaced what at distance 0 ++ drop 0 list
  unfolding spaced
  none_read = refl

  pub read_more : (after : List A) (i : ℕ) (one : A) → i < length list → after ≡ spaced what at distance i ++ drop i list → one ≡ what (at + distance * i) →
      set after i one ≡ spaced what at distance (i + 1) ++ drop (i + 1) list
  read_more after i one more before now =
      let first = spaced what at distance i in
      let stored : set (first ++ (get_or list i one ∷ drop (suc i) list)) i one ≡ first ++ (one ∷ drop (suc i) list) =
      set_at first (get_or list i one) (drop (suc i) list) one i (length_spaced what at distance i) in
      rw (before, add-one, drop-cons list i one more, spaced_more what at distance i, sym now) (stored ∙ sym (append_snoc first one (drop (suc i) list)))

  pub all_read : (after : List A) (i : ℕ) → i ≡ length list → after ≡ spaced what at distance i ++ drop i list → after ≡ spaced what at distance (length list)
  all_read after i all e = e ∙ (rw (all, drop-length list) (append-nil (spaced what at distance (length list))))
