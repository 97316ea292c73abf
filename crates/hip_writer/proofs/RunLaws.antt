-- Memory descriptors written one after the other, and the parts of a page.
use Prim.Native.Nat.{ℕ, ◌+◌, ◌-◌, ◌*◌, ◌/◌, ◌≤◌, ◌<◌}
use mathlib.Core.Path.{◌≡◌, sym, ap, ◌∙◌}
use mathlib.Core.Bool.{Bool, true, false}
use mathlib.Core.List.{List, [], ◌∷◌, ◌++◌, append_assoc}
use native.Mathlib.Numerals.{add-one}
use native.Mathlib.Omega.{arith}
use lib.IntN.{ℤ}
use mir.Syntax.{w32}
use mir.Val.{of_z, to_z, SFits}
use mir.Facts.{to_z-of_z}
use borrow.Author.Tests.{lt-ltb, le-ltb}
use lib.ListN.{length, take, drop, length-append}
use Rattle.std.specs.Prelude.{Ok, Err}
use lib.Seq.{length-take-le, take-append_seam, take_at, drop_at}
use Rattle.endian.specs.Parts.{written}
use Rattle.endian.specs.Numbers.{bytes_of}
use Rattle.endian.specs.Runs.{bytes_of_each, spaced}
use Rattle.endian.proofs.PartLaws.{written_nothing, written_then}
use Rattle.endian.proofs.NumberLaws.{length_bytes}
use Rattle.endian.proofs.RunLaws.{length_spaced, spaced_more, length_each, item_more}
use Rattle.hip_format.specs.Format.{signature, header_size, cpu_size, memory_size, Contents, fields, cpu_bytes, memory_bytes, memory_start, page_length, page_with, word_sum, complement, checksum_of, page}
use Rattle.hip_format.specs.Reader.{cpu_at, types_allowed}
use Rattle.hip_format.specs.Writer.{memory_given, shortest, given, writing}
use Rattle.hip_format.specs.declared.Header.{Header}
use Rattle.hip_format.specs.declared.Memory.{Memory}
use Rattle.hip_format.specs.declared.WriteRefusal.TheVariants.{«Type», Large, Room}
use Rattle.hip_format.proofs.FieldLaws.{length_memory}
use Rattle.hip_format.proofs.GivenLaws.{whole_cpus}
use Rattle.hip_format.proofs.PageLaws.{length_page}
use Rattle.hip_format.proofs.ChecksumLaws.{after, with_checksum}
use Rattle.hip_format.proofs.WriteLaws.{length_whole, written_good}

-- a type that was stored and taken by its bits
pub kind_bits : (kind : ℤ) (bits : ℕ) → SFits w32 kind → bits ≡ of_z w32 (to_z w32 (of_z w32 kind)) → bits ≡ of_z w32 kind
kind_bits kind bits fits e = e ∙ ap (of_z w32) (to_z-of_z {w = w32} {z = kind} fits)

-- two runs of bytes written one after the other
then : (list one two : List ℕ) (at next : ℕ) (first second : List ℕ) → at ≤ length list → next ≡ at + length first → one ≡ written list at first → two ≡ written one next second →
    two ≡ written list at (first ++ second)
then list one two at next first second inside place e1 e2 = e2 ∙ (rw (e1, place) (written_then list at inside first second))

-- a memory descriptor, number by number
pub memory_written : (list one two three four : List ℕ) (at address size bits auxiliary : ℕ) (kind : ℤ) → at + 24 ≤ length list → one ≡ written list at (bytes_of 8 address) →
    two ≡ written one (at + 8) (bytes_of 8 size) → SFits w32 kind → bits ≡ of_z w32 (to_z w32 (of_z w32 kind)) → three ≡ written two (at + 16) (bytes_of 4 bits) →
    four ≡ written three (at + 20) (bytes_of 4 auxiliary) → four ≡ written list at (memory_bytes (record { address = address; size = size; kind = kind; auxiliary = auxiliary }))
unfolding memory_bytes
memory_written list one two three four at address size bits auxiliary kind fits e1 e2 small eb e3 e4 =
    let a = bytes_of 8 address in
    let s = bytes_of 8 size in
    let k = bytes_of 4 (of_z w32 kind) in
    let x = bytes_of 4 auxiliary in
    let la : length a ≡ 8 = length_bytes 8 address in
    let ls : length s ≡ 8 = length_bytes 8 size in
    let lk : length k ≡ 4 = length_bytes 4 (of_z w32 kind) in
    let inside : at ≤ length list = omega arith in
    let two_is : two ≡ written list at (a ++ s) = then list one two at (at + 8) a s inside (omega arith) e1 e2 in
    let three_is : three ≡ written list at ((a ++ s) ++ k) =
    then list two three at (at + 16) (a ++ s) k inside (omega (arith, length-append a s)) two_is (e3 ∙ ap (λ (n : ℕ). written two (at + 16) (bytes_of 4 n)) (kind_bits kind bits small eb)) in
    let four_is : four ≡ written list at (((a ++ s) ++ k) ++ x) =
    then list three four at (at + 20) ((a ++ s) ++ k) x inside (omega (arith, length-append a s, length-append (a ++ s) k)) three_is e4 in
    four_is ∙ ap (written list at) (simp append_assoc)

-- the header: the signature, the numbers of 16 bits, those of 32
pub header_written : (list one two three signature shorts longs : List ℕ) → length signature ≡ 4 → length shorts ≡ 6 → one ≡ written list 0 signature →
    two ≡ written one 4 (bytes_of_each (bytes_of 2) shorts) → three ≡ written two 16 (bytes_of_each (bytes_of 4) longs) →
    three ≡ written list 0 (signature ++ bytes_of_each (bytes_of 2) shorts ++ bytes_of_each (bytes_of 4) longs)
header_written list one two three signature shorts longs four six e1 e2 e3 =
    let size : length (bytes_of_each (bytes_of 2) shorts) ≡ 12 = length_each (bytes_of 2) 2 (length_bytes 2) shorts ∙ (rw six) in
    let two_is = then list one two 0 4 signature (bytes_of_each (bytes_of 2) shorts) (omega arith) (omega arith) e1 e2 in
    then list two three 0 16 (signature ++ bytes_of_each (bytes_of 2) shorts) (bytes_of_each (bytes_of 4) longs) (omega arith) (omega (arith, length-append signature (bytes_of_each (bytes_of 2) shorts))) two_is e3

-- memory descriptors, in turn
module _ (list : List ℕ) (at : ℕ) (what : ℕ → Memory) where
  pub no_memory_yet : list ≡ written list at (bytes_of_each memory_bytes (spaced what 0 1 0))
  unfolding bytes_of_each spaced
  no_memory_yet = written_nothing list at

  pub memory_more : (after next : List ℕ) (i : ℕ) → at ≤ length list → after ≡ written list at (bytes_of_each memory_bytes (spaced what 0 1 i)) →
      next ≡ written after (at + 24 * i) (memory_bytes (what i)) → next ≡ written list at (bytes_of_each memory_bytes (spaced what 0 1 (i + 1)))
  memory_more after next i inside before now =
      let same : 0 + 1 * i ≡ i = omega arith in
      rw (add-one, spaced_more what 0 1 i, same) (item_more memory_bytes 24 length_memory list after next at i (spaced what 0 1 i) (what i) (length_spaced what 0 1 i) inside before now)

-- a descriptor whose type was stored
pub kind_stored : (list next : List ℕ) (at address size auxiliary : ℕ) (kind : ℤ) → SFits w32 kind →
    next ≡ written list at (memory_bytes (record { address = address; size = size; kind = to_z w32 (of_z w32 kind); auxiliary = auxiliary })) →
    next ≡ written list at (memory_bytes (record { address = address; size = size; kind = kind; auxiliary = auxiliary }))
kind_stored list next at address size auxiliary kind fits e =
    e ∙ ap (λ (k : ℤ). written list at (memory_bytes (record { address = address; size = size; kind = k; auxiliary = auxiliary }))) (to_z-of_z {w = w32} {z = kind} fits)

-- bytes written over others of the same number
overwritten : (front old new rest : List ℕ) → length old ≡ length new → written (front ++ (old ++ rest)) (length front) new ≡ front ++ (new ++ rest)
overwritten front old new rest same =
    let end : length (front ++ old) ≡ length front + length new = length-append front old ∙ ap (λ (k : ℕ). length front + k) same in
    let after : drop (length front + length new) (front ++ (old ++ rest)) ≡ rest = (rw (sym (append_assoc front old rest)) (drop_at (front ++ old) rest (length front + length new) end)) in
    rw (take-append_seam front (old ++ rest), after) (append_assoc front new rest)

-- five parts, grouped either way
five : (a b c d e : List ℕ) → ((a ++ b ++ c) ++ d) ++ e ≡ a ++ (b ++ (c ++ (d ++ e)))
five a b c d e = simp append_assoc

-- and with more after them
over : (front old new rest tail : List ℕ) → length old ≡ length new → written ((front ++ (old ++ rest)) ++ tail) (length front) new ≡ (front ++ (new ++ rest)) ++ tail
over front old new rest tail same =
    ap (λ (l : List ℕ). written l (length front) new) (append_assoc front (old ++ rest) tail ∙ ap (λ (l : List ℕ). front ++ l) (append_assoc old rest tail)) ∙
    overwritten front old new (rest ++ tail) same ∙
    sym (append_assoc front (new ++ rest) tail ∙ ap (λ (l : List ℕ). front ++ l) (append_assoc new rest tail))

-- the parts of a page, written one after the other, and then the checksum
module _ (header : Header) (cpus addresses sizes : List ℕ) (kinds : List ℤ) (auxiliaries : List ℕ) (buffer : List ℕ) where
  abbrev contents : Contents
  contents = given header cpus addresses sizes kinds auxiliaries

  abbrev memories : List ℕ
  memories = bytes_of_each memory_bytes (spaced (memory_given addresses sizes kinds auxiliaries) 0 1 (shortest addresses sizes kinds auxiliaries))

  given_start : memory_start contents ≡ 56 + 4 * (length cpus / 4)
  unfolding given
  given_start = rw (length_spaced (cpu_at cpus) 0 4 (length cpus / 4))

  pub given_length : page_length contents ≡ 56 + 4 * (length cpus / 4) + 24 * shortest addresses sizes kinds auxiliaries
  unfolding given
  given_length = rw (length_spaced (cpu_at cpus) 0 4 (length cpus / 4), length_spaced (memory_given addresses sizes kinds auxiliaries) 0 1 (shortest addresses sizes kinds auxiliaries))

  given_memories : (count : ℕ) → count ≡ shortest addresses sizes kinds auxiliaries →
      bytes_of_each memory_bytes (spaced (memory_given addresses sizes kinds auxiliaries) 0 1 count) ≡ bytes_of_each memory_bytes contents.memories
  unfolding given
  given_memories count e = ap (λ (n : ℕ). bytes_of_each memory_bytes (spaced (memory_given addresses sizes kinds auxiliaries) 0 1 n)) e

  in_page : (size start : ℕ) (part memory_part : List ℕ) → size ≡ page_length contents → start ≡ memory_start contents → part ≡ bytes_of_each cpu_bytes contents.cpus →
      memory_part ≡ bytes_of_each memory_bytes contents.memories →
      ((signature ++ bytes_of_each (bytes_of 2) (0 ∷ size ∷ header_size ∷ cpu_size ∷ start ∷ memory_size ∷ []) ++ bytes_of_each (bytes_of 4) (fields contents.header)) ++ part) ++ memory_part ≡
      page_with 0 contents
  unfolding page_with
  in_page size start part memory_part ez es ep em =
      five signature (bytes_of_each (bytes_of 2) (0 ∷ size ∷ header_size ∷ cpu_size ∷ start ∷ memory_size ∷ [])) (bytes_of_each (bytes_of 4) (fields contents.header)) part memory_part ∙ (rw (ez, es, ep, em))

  -- the parts without the checksum
  whole : (one two three : List ℕ) (start count size : ℕ) → start ≡ 56 + 4 * (length cpus / 4) → count ≡ shortest addresses sizes kinds auxiliaries → size ≡ start + 24 * count →
      one ≡ written buffer 0 (signature ++ bytes_of_each (bytes_of 2) (0 ∷ size ∷ header_size ∷ cpu_size ∷ start ∷ memory_size ∷ []) ++ bytes_of_each (bytes_of 4) (fields header)) →
      two ≡ written one 56 (take (start - 56) cpus) → three ≡ written two start (bytes_of_each memory_bytes (spaced (memory_given addresses sizes kinds auxiliaries) 0 1 count)) →
      three ≡ written buffer 0 (page_with 0 contents)
  unfolding given
  whole one two three start count size es ec ez e1 e2 e3 =
      let shorts = bytes_of_each (bytes_of 2) (0 ∷ size ∷ header_size ∷ cpu_size ∷ start ∷ memory_size ∷ []) in
      let longs = bytes_of_each (bytes_of 4) (fields header) in
      let lshorts : length shorts ≡ 12 = length_each (bytes_of 2) 2 (length_bytes 2) (0 ∷ size ∷ header_size ∷ cpu_size ∷ start ∷ memory_size ∷ []) in
      let llongs : length longs ≡ 40 = length_each (bytes_of 4) 4 (length_bytes 4) (fields header) in
      let head = signature ++ shorts ++ longs in
      let lhead : length head ≡ 56 = length-append (signature ++ shorts) longs ∙ (rw (length-append signature shorts, lshorts, llongs)) in
      let part = take (start - 56) cpus in
      let lpart : length part ≡ start - 56 = length-take-le (start - 56) cpus (omega arith) in
      let two_is = then buffer one two 0 56 head part (omega arith) (omega arith) e1 e2 in
      let three_is = then buffer two three 0 start (head ++ part) (bytes_of_each memory_bytes (spaced (memory_given addresses sizes kinds auxiliaries) 0 1 count)) (omega arith) (omega (arith, length-append head part)) two_is e3 in
      let whole_part : start - 56 ≡ 4 * (length cpus / 4) = omega arith in
      let cpu_bytes_lem : part ≡ bytes_of_each cpu_bytes contents.cpus = ap (λ (n : ℕ). take n cpus) whole_part ∙ sym (whole_cpus header cpus addresses sizes kinds auxiliaries) in
      let size_is : size ≡ page_length contents = omega (arith, given_length) in
      let start_is : start ≡ memory_start contents = omega (arith, given_start) in
      three_is ∙ ap (written buffer 0) (in_page size start part (bytes_of_each memory_bytes (spaced (memory_given addresses sizes kinds auxiliaries) 0 1 count)) size_is start_is cpu_bytes_lem (given_memories count ec))

  -- a page that is laid at the start of a buffer is its front
  front : (size : ℕ) (three : List ℕ) → size ≡ page_length contents → three ≡ written buffer 0 (page_with 0 contents) → take size three ≡ page_with 0 contents
  front size three ez e =
      let long : length (page_with 0 contents) ≡ size = length_page 0 contents ∙ sym ez in
      rw e (take_at (page_with 0 contents) (drop (0 + length (page_with 0 contents)) buffer) size long)

  -- the checksum written over 0
  summed : (checksum : ℕ) → written (written buffer 0 (page_with 0 contents)) 4 (bytes_of 2 checksum) ≡ written buffer 0 (page_with checksum contents)
  summed checksum =
      let same : length (page_with 0 contents) ≡ length (page_with checksum contents) = length_page 0 contents ∙ sym (length_page checksum contents) in
      let tail = drop (0 + length (page_with 0 contents)) buffer in
      let widths : length (bytes_of 2 0) ≡ length (bytes_of 2 checksum) = length_bytes 2 0 ∙ sym (length_bytes 2 checksum) in
      ap (λ (l : List ℕ). written (l ++ tail) 4 (bytes_of 2 checksum)) (with_checksum contents 0) ∙
      over signature (bytes_of 2 0) (bytes_of 2 checksum) (after contents) tail widths ∙
      ap (λ (l : List ℕ). l ++ tail) (sym (with_checksum contents checksum)) ∙
      ap (λ (n : ℕ). page_with checksum contents ++ drop (0 + n) buffer) same

  -- the whole page
  pub page_written_lem : (one two three four : List ℕ) (start count size : ℕ) → start ≡ 56 + 4 * (length cpus / 4) → count ≡ shortest addresses sizes kinds auxiliaries → size ≡ start + 24 * count →
      one ≡ written buffer 0 (signature ++ bytes_of_each (bytes_of 2) (0 ∷ size ∷ header_size ∷ cpu_size ∷ start ∷ memory_size ∷ []) ++ bytes_of_each (bytes_of 4) (fields header)) →
      two ≡ written one 56 (take (start - 56) cpus) → three ≡ written two start (bytes_of_each memory_bytes (spaced (memory_given addresses sizes kinds auxiliaries) 0 1 count)) →
      four ≡ written three 4 (bytes_of 2 (complement (word_sum (take size three)))) → four ≡ written buffer 0 (page contents)
  unfolding page
  page_written_lem one two three four start count size es ec ez e1 e2 e3 e4 =
      let laid : three ≡ written buffer 0 (page_with 0 contents) = whole one two three start count size es ec ez e1 e2 e3 in
      let long : size ≡ page_length contents = omega (arith, given_length) in
      e4 ∙ (rw (front size three long laid, laid) (summed (checksum_of contents)))

  -- a page written at the start of a buffer, with the bytes past it
  pub page_first : (after_page : List ℕ) → after_page ≡ written buffer 0 (page contents) → after_page ≡ page contents ++ drop (page_length contents) buffer
  page_first after_page e =
      let long : 0 + length (page contents) ≡ page_length contents = omega (arith, length_whole contents) in
      e ∙ ap (λ (n : ℕ). page contents ++ drop n buffer) long

  -- what the writer answers on each way out
  module _ (memory_count_lem : ℕ) (counted : memory_count_lem ≡ shortest addresses sizes kinds auxiliaries) (are_allowed : Bool)
      (tested : (a s x : List ℕ) → are_allowed ≡ types_allowed (spaced (memory_given a s kinds x) 0 1 memory_count_lem)) where
    allowed : are_allowed ≡ types_allowed contents.memories
    unfolding given
    allowed = tested addresses sizes auxiliaries ∙ ap (λ (n : ℕ). types_allowed (spaced (memory_given addresses sizes kinds auxiliaries) 0 1 n)) counted

    pub answers_type : are_allowed ≡ false → record { answer = Err «Type»; buffer = buffer } ≡ writing contents buffer
    unfolding writing
    answers_type f = rw (sym allowed ∙ f)

    module _ (t : are_allowed ≡ true) where
      pub answers_large : 65535 < 56 + 4 * (length cpus / 4) + 24 * memory_count_lem → record { answer = Err Large; buffer = buffer } ≡ writing contents buffer
      unfolding writing
      answers_large large = rw (sym allowed ∙ t, lt-ltb 65535 (page_length contents) (omega (arith, given_length)))

      pub answers_room : 56 + 4 * (length cpus / 4) + 24 * memory_count_lem ≤ 65535 → length buffer < 56 + 4 * (length cpus / 4) + 24 * memory_count_lem →
          record { answer = Err Room; buffer = buffer } ≡ writing contents buffer
      unfolding writing
      answers_room small short =
          rw (sym allowed ∙ t, le-ltb 65535 (page_length contents) (omega (arith, given_length)), lt-ltb (length buffer) (page_length contents) (omega (arith, given_length)))

      pub answers_done : (size : ℕ) (after_page : List ℕ) → 56 + 4 * (length cpus / 4) + 24 * memory_count_lem ≤ 65535 → 56 + 4 * (length cpus / 4) + 24 * memory_count_lem ≤ length buffer →
          size ≡ 56 + 4 * (length cpus / 4) + 24 * memory_count_lem → after_page ≡ written buffer 0 (page contents) → record { answer = Ok size; buffer = after_page } ≡ writing contents buffer
      answers_done size after_page small room ez e =
          let long : size ≡ page_length contents = omega (arith, given_length) in
          let good = written_good contents buffer (sym allowed ∙ t) (omega (arith, given_length)) (omega (arith, given_length)) in
          rw (page_first after_page e, long) (sym good)
