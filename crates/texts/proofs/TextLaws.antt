-- Texts written one after the other are one text written.
use Prim.Native.Nat.{ℕ, zero, suc, ◌+◌, ◌-◌, ◌/◌, ◌%◌, ◌^◌, ◌≤◌, ◌<◌}
use mathlib.Core.Path.{◌≡◌, refl, sym, ap, ◌∙◌, subst}
use mathlib.Core.List.{List, [], ◌∷◌, ◌++◌}
use native.Mathlib.Nat.{add_assoc, add-zero}
use native.Mathlib.Omega.{arith}
use lib.ListN.{length, take, drop, set, replicate, length-append, length-set, length-replicate}
use borrow.Rule.Slice.PartMut.{put_mid}
use Rattle.std.proofs.lemmas.Slice.{put_mid-paste}
use Rattle.io.specs.Digits.{hex_digit_ascii, last_digits}
use Rattle.endian.proofs.PartLaws.{length_part, written_nothing, written_then, length_written, byte_written, copied_whole}
use Rattle.interface.specs.Journal.{decimal, blank}
use Rattle.texts.specs.Texts.{hexadecimal, padded, Wrote}
use Rattle.texts.proofs.DecimalLaws.{length_digits, decimal_at_most}

-- no text is written by leaving a buffer alone
pub wrote_nothing : (before : List ℕ) (at : ℕ) → at ≤ length before → Wrote before at [] before at
wrote_nothing before at fits = record { leaves = written_nothing before at; ends = sym (add-zero at); fits = fits }

-- a text may be another that is the same
pub wrote_same : {before text other after : List ℕ} {at end : ℕ} → text ≡ other → Wrote before at text after end → Wrote before at other after end
wrote_same {before} {after = after} {at = at} {end = end} same wrote = subst (λ (t : List ℕ). Wrote before at t after end) same wrote

-- two texts written one after the other
pub wrote_then : {before middle after first second : List ℕ} {at next end : ℕ} → at ≤ length before → Wrote before at first middle next → Wrote middle next second after end →
    Wrote before at (first ++ second) after end
wrote_then {before} {first = first} {second = second} {at = at} fits one two =
    record {
      leaves = two.leaves ∙ (rw (one.leaves, one.ends) (written_then before at fits first second));
      ends = two.ends ∙ (rw (one.ends, length-append first second) (add_assoc at (length first) (length second)));
      fits = two.fits;
    }

-- one byte stored after a text
pub wrote_byte : (before middle text : List ℕ) (at next byte : ℕ) → at ≤ length before → next < length middle → Wrote before at text middle next →
    Wrote before at (text ++ (byte ∷ [])) (set middle next byte) (next + 1)
wrote_byte before middle text at next byte fits room wrote =
    wrote_then fits wrote (record { leaves = byte_written middle next byte room; ends = refl; fits = simp length-set (omega arith) })

-- where a number of few digits and a byte after it end
pub number_ends : (k number byte : ℕ) {before after : List ℕ} {at end : ℕ} → number < 10 ^ suc k → Wrote before at (decimal number ++ (byte ∷ [])) after end → end ≤ at + (k + 2)
number_ends k number byte small wrote = omega (arith, wrote.ends, length-append (decimal number) (byte ∷ []), decimal_at_most k number small)

-- blanks that fill a part of a buffer, which keeps its length
pub blanks_written : (before filled : List ℕ) (at end count : ℕ) → end ≡ at + count → end ≤ length before → filled ≡ replicate (length (take (end - at) (drop at before))) blank →
    Wrote before at (replicate count blank) (put_mid at (end - at) before filled) end × (length (put_mid at (end - at) before filled) ≡ length before)
blanks_written before filled at end count ends fits is_filled =
    let blanks = replicate count blank in
    let long : length blanks ≡ count = length-replicate count blank in
    let size : end - at ≡ count = omega arith in
    let all : filled ≡ blanks = is_filled ∙ ap (λ (k : ℕ). replicate k blank) (length_part before at (end - at) (omega arith) ∙ size) in
    let whole : end - at ≡ length blanks = omega arith in
    let leaves = copied_whole before blanks _ at (end - at) whole (put_mid-paste at (end - at) before filled blanks (end - at) all refl whole) in
    let same = ap length leaves ∙ length_written before at (omega arith) blanks (omega arith) in
    (record { leaves = leaves; ends = omega arith; fits = omega arith }, same)

-- how long a text with blanks before it is
pub length_padded : (width : ℕ) (text : List ℕ) → length (padded width text) ≡ width - length text + length text
length_padded width text = length-append (replicate (width - length text) blank) text ∙ ap (λ (k : ℕ). k + length text) (length-replicate (width - length text) blank)

-- blanks before a number, and the number after them
pub wrote_right : (width count : ℕ) (text : List ℕ) {before middle after : List ℕ} {at next end : ℕ} → at ≤ length before → count ≡ length text →
    Wrote before at (replicate (width - count) blank) middle next → Wrote middle next text after end → Wrote before at (padded width text) after end
wrote_right width count text fits whole blanks number = wrote_then fits (rw whole at blanks) number

-- no digit, and the last digit after the others
pub no_digit : (before : List ℕ) (at number count : ℕ) → at ≤ length before → count ≡ 0 → Wrote before at (last_digits 16 count number) before at
no_digit before at number count fits none = rw none (wrote_nothing before at fits)

pub wrote_digit : (before middle : List ℕ) (at next number count digit : ℕ) → at ≤ length before → next < length middle → 0 < count → digit ≡ hex_digit_ascii (number % 16) →
    Wrote before at (last_digits 16 (count - 1) (number / 16)) middle next → Wrote before at (last_digits 16 count number) (set middle next digit) (next + 1)
wrote_digit before middle at next number zero digit fits room some e wrote = elim some [ ]
wrote_digit before middle at next number (suc count) digit fits room some e wrote =
    let others : suc count - 1 ≡ count = omega arith in
    rw e (wrote_byte before middle (last_digits 16 count (number / 16)) at next (hex_digit_ascii (number % 16)) fits room (rw others at wrote))

-- how long a hexadecimal number is
pub length_hexadecimal : (count number : ℕ) → length (hexadecimal count number) ≡ 2 + count
length_hexadecimal count number = rw (length_digits 16 count number) (omega arith)
