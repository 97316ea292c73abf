-- The sum is that of the page without its checksum.
use mathlib.Core.Path.{◌≡◌, ap, ◌∙◌}
use Prim.Native.Nat.{ℕ}
use native.Mathlib.Omega.{arith}
use lib.ListN.{take}
use Rattle.endian.specs.Parts.{written}
use Rattle.endian.specs.Numbers.{bytes_of}
use Rattle.hip_format.specs.Format.{word_sum, complement}
use Rattle.hip_writer.proofs.put_checksum.Goals as goal

pub returns : goal.returns
returns c = let checksum : c.wrapping_neg.result ≡ complement (word_sum (take c.args.size c.args.buffer.now)) = omega (arith, c.word_sum-sum.ensures, c.wrapping_neg.ensures) in
    c.put.ensures ∙ ap (λ (number : ℕ). written c.args.buffer.now 4 (bytes_of 2 number)) checksum
