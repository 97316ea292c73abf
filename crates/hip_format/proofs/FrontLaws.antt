-- Bytes after the first 65,536 change no judgement.
use Prim.Native.Nat.{ℕ, ◌≤◌}
use mathlib.Core.Path.{◌≡◌, refl, sym, ap, ◌∙◌}
use mathlib.Core.Bool.{Bool, true, false}
use mathlib.Core.List.{List}
use native.Mathlib.Omega.{arith}
use lib.Dec.{leb}
use lib.ListN.{length, take}
use borrow.Author.Tests.{leb-true, leb-false}
use lib.Seq.{take_all, take-take, length-take-le}
use Rattle.endian.specs.Parts.{AreBytes}
use Rattle.endian.proofs.PartLaws.{part_bytes}
use Rattle.endian.proofs.NumberLaws.{number_below}
use Rattle.hip_format.specs.Format.{signature}
use Rattle.hip_format.specs.Reader.{same_bytes, refused, judged}
use Rattle.hip_format.specs.Consequences.{Measured}
use Rattle.hip_format.specs.declared.Refusal.{Refusal}
use Rattle.hip_format.specs.declared.Refusal.TheVariants.{Signature, Length}
use Rattle.hip_format.proofs.JudgeLaws.{decides_same, refutes, refused_signature, refused_length}

-- why so many bytes are refused, by whether they begin with the signature
abbrev by : Bool → Refusal
by true = Length
by false = Signature

-- more bytes than a length field can say
module _ (bytes : List ℕ) (each : AreBytes bytes) (long : 65536 ≤ length bytes) where
  unmeasured : Measured bytes → ⊥
  unmeasured facts = omega (arith, number_below bytes 6 2 each (omega arith), facts.1)

  judged_long : (test : Bool) → same_bytes (take 4 bytes) signature ≡ test → judged bytes ≡ refused (by test)
  judged_long true t = (refused_length bytes).1 ((omega arith, (decides_same (take 4 bytes) signature).tells t), unmeasured)
  judged_long false f = (refused_signature bytes).1 (omega arith, λ facts. refutes (same_bytes (take 4 bytes) signature) (decides_same (take 4 bytes) signature) f facts.1)

-- the first 65,536 bytes decide
pub front_decides : (bytes : List ℕ) → AreBytes bytes → judged (take 65536 bytes) ≡ judged bytes
front_decides bytes each = go (leb 65536 (length bytes)) refl
  where
    go : (test : Bool) → leb 65536 (length bytes) ≡ test → judged (take 65536 bytes) ≡ judged bytes
    go true t =
        let long : 65536 ≤ length bytes = leb-true 65536 (length bytes) t in
        let front = take 65536 bytes in
        let same : same_bytes (take 4 front) signature ≡ same_bytes (take 4 bytes) signature = ap (λ (l : List ℕ). same_bytes l signature) (take-take 4 65536 bytes (omega arith)) in
        let size : length front ≡ 65536 = length-take-le 65536 bytes long in
        judged_long front (part_bytes bytes 0 65536 each) (omega arith) (same_bytes (take 4 bytes) signature) same ∙ sym (judged_long bytes each long (same_bytes (take 4 bytes) signature) refl)
    go false f = ap judged (take_all 65536 bytes (omega (arith, leb-false 65536 (length bytes) f)))
