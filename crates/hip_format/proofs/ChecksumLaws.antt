-- Of all checksums of a page one makes the sum of its words 0.
use Prim.Native.Nat.{ℕ, ◌+◌, ◌%◌, ◌<◌}
use mathlib.Core.Path.{◌≡◌, refl}
use mathlib.Core.Logic.{◌↔◌}
use mathlib.Core.List.{List, [], ◌∷◌, ◌++◌, append_assoc}
use native.Mathlib.Omega.{arith}
use Rattle.endian.specs.Numbers.{bytes_of}
use Rattle.endian.specs.Runs.{bytes_of_each}
use Rattle.hip_format.specs.Format.{signature, header_size, cpu_size, memory_size, Contents, fields, cpu_bytes, memory_bytes, memory_start, page_length, page_with, word_sum, complement, checksum_of}

-- the sum of a number's two bytes and what follows them
pub sum_number : (number : ℕ) (bytes : List ℕ) → number < 65536 → word_sum (bytes_of 2 number ++ bytes) ≡ number + word_sum bytes
unfolding word_sum bytes_of
sum_number number bytes small = omega arith

-- a page is its signature, its checksum and what has nothing to do with the checksum
module _ (contents : Contents) where
  abbrev pub after : List ℕ
  after =
      bytes_of_each (bytes_of 2) (page_length contents ∷ header_size ∷ cpu_size ∷ memory_start contents ∷ memory_size ∷ []) ++
      (bytes_of_each (bytes_of 4) (fields contents.header) ++ (bytes_of_each cpu_bytes contents.cpus ++ bytes_of_each memory_bytes contents.memories))

  first_number : (number : ℕ) (numbers : List ℕ) → bytes_of_each (bytes_of 2) (number ∷ numbers) ≡ bytes_of 2 number ++ bytes_of_each (bytes_of 2) numbers
  unfolding bytes_of_each
  first_number number numbers = refl

  pub with_checksum : (checksum : ℕ) → page_with checksum contents ≡ signature ++ (bytes_of 2 checksum ++ after)
  unfolding page_with
  with_checksum checksum = rw (first_number checksum, append_assoc (bytes_of 2 checksum))

  sum_signed : (bytes : List ℕ) → word_sum (signature ++ bytes) ≡ 37028 + word_sum bytes
  unfolding word_sum
  sum_signed bytes = omega arith

  sum_with : (checksum : ℕ) → checksum < 65536 → word_sum (page_with checksum contents) ≡ 37028 + (checksum + word_sum after)
  sum_with checksum small = rw (with_checksum checksum, sum_signed (bytes_of 2 checksum ++ after), sum_number checksum after small)

  -- one checksum fits
  pub one_fits : (checksum : ℕ) → checksum < 65536 → (word_sum (page_with checksum contents) % 65536 ≡ 0) ↔ (checksum ≡ checksum_of contents)
  one_fits checksum small =
      rw (sum_with checksum small, sum_with 0 (omega arith))
      (λ (zero_sum : (37028 + (checksum + word_sum after)) % 65536 ≡ 0). omega arith, λ (fits : checksum ≡ complement (37028 + (0 + word_sum after))). omega arith)
