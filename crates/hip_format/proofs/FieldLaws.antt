-- One number or one descriptor: how long its bytes are, what is read where they stand, and what the bytes of what is read are.
use Prim.Native.Nat.{ℕ, zero, suc, ◌+◌, ◌^◌, ◌≤◌, ◌<◌}
use mathlib.Core.Path.{◌≡◌, refl, sym, ap, ◌∙◌}
use mathlib.Core.Bool.{Bool, true, false, ◌&&◌, false≢true}
use mathlib.Core.List.{List, ◌++◌, append_assoc}
use native.Mathlib.Nat.{add-zero}
use native.Mathlib.Omega.{arith}
use lib.Dec.{ltb, leb}
use lib.IntN.{ℤ, pos, negsuc}
use lib.ListN.{length, get_or, length-append}
use lib.Seq.{get_or-append-add}
use mir.Syntax.{w32}
use mir.Val.{of_z, to_z}
use mir.Facts.{to_z-of_z, of_z-to_z}
use borrow.Author.Tests.{ltb-true, leb-true}
use Rattle.endian.specs.Parts.{AreBytes, part}
use Rattle.endian.specs.Numbers.{bytes_of, number_at}
use Rattle.endian.proofs.PartLaws.{part_add, part_four}
use Rattle.endian.proofs.NumberLaws.{length_bytes, number_back, bytes_at, number_below}
use Rattle.hip_format.specs.Format.{type_allowed, cpu_bytes, memory_bytes}
use Rattle.hip_format.specs.Reader.{cpu_at, memory_at}
use Rattle.hip_format.specs.Consequences.{CpuFits, MemoryFits}
use Rattle.hip_format.specs.declared.Cpu.{Cpu}
use Rattle.hip_format.specs.declared.Memory.{Memory}

-- a memory descriptor has 24 bytes
pub length_memory : (memory : Memory) → length (memory_bytes memory) ≡ 24
unfolding memory_bytes
length_memory memory = simp (length-append, length_bytes)

-- of two tests that both hold, the first
pub and_left : (a b : Bool) → (a && b) ≡ true → a ≡ true
and_left true b both = refl
and_left false b both = absurd (false≢true both)

-- and the second
pub and_right : (a b : Bool) → (a && b) ≡ true → b ≡ true
and_right true b both = both
and_right false b both = absurd (false≢true both)

-- the bits of a type that is allowed
bits_fit : (kind : ℤ) → type_allowed kind ≡ true → of_z w32 kind < 2 ^ 32
bits_fit (pos number) allowed = omega (arith, leb-true number 4 (and_right (ltb 0 number) (leb number 4) allowed))
bits_fit (negsuc number) allowed = omega arith

-- a byte after the front of a list
byte_back : (front list : List ℕ) (at k : ℕ) → length front ≡ at → get_or (front ++ list) (at + k) 0 ≡ get_or list k 0
byte_back front list at k place = rw (sym place) (get_or-append-add front list k 0)

-- where the bytes of a CPU descriptor stand it is read
pub cpu_back : (front rest : List ℕ) (at : ℕ) (cpu : Cpu) → length front ≡ at → cpu_at (front ++ (cpu_bytes cpu ++ rest)) at ≡ cpu
cpu_back front rest at cpu place =
    let list = cpu_bytes cpu ++ rest in
    let first : get_or (front ++ list) at 0 ≡ cpu.flags = ap (λ (k : ℕ). get_or (front ++ list) k 0) (sym (add-zero at)) ∙ byte_back front list at 0 place in
    rw (first, byte_back front list at 1 place, byte_back front list at 2 place, byte_back front list at 3 place)

-- the bytes of the CPU descriptor at a place are those that stand there
pub cpu_again : (bytes : List ℕ) (at : ℕ) → at + 4 ≤ length bytes → cpu_bytes (cpu_at bytes at) ≡ part bytes at 4
cpu_again bytes at fits = sym (part_four bytes at fits)

-- and are bytes
pub cpu_fits : (bytes : List ℕ) (at : ℕ) → AreBytes bytes → CpuFits (cpu_at bytes at)
cpu_fits bytes at each zero = each at
cpu_fits bytes at each (suc zero) = each (at + 1)
cpu_fits bytes at each (suc (suc zero)) = each (at + 2)
cpu_fits bytes at each (suc (suc (suc zero))) = each (at + 3)
cpu_fits bytes at each (suc (suc (suc (suc i)))) = omega arith

-- a type that is allowed is read back from its bits
pub kind_back : (kind : ℤ) → type_allowed kind ≡ true → to_z w32 (of_z w32 kind) ≡ kind
kind_back (pos number) allowed =
    let small : number < 2 ^ 31 = omega (arith, leb-true number 4 (and_right (ltb 0 number) (leb number 4) allowed)) in
    to_z-of_z {w = w32} {z = pos number} (record { sfits = small })
kind_back (negsuc number) allowed =
    let small : number < 2 ^ 31 = omega (arith, ltb-true number 2 allowed) in
    to_z-of_z {w = w32} {z = negsuc number} (record { sfits = small })

-- what is asked of a memory descriptor that is read back
pub record MemoryGood (memory : Memory) : Type 0 where
  pub fits : MemoryFits memory
  pub allowed : type_allowed memory.kind ≡ true

-- where the bytes of a memory descriptor stand it is read
pub memory_back : (front rest : List ℕ) (at : ℕ) (memory : Memory) → length front ≡ at → MemoryGood memory → memory_at (front ++ (memory_bytes memory ++ rest)) at ≡ memory
unfolding memory_bytes
memory_back front rest at memory place good =
    let a = bytes_of 8 memory.address in
    let s = bytes_of 8 memory.size in
    let k = bytes_of 4 (of_z w32 memory.kind) in
    let x = bytes_of 4 memory.auxiliary in
    let whole = front ++ ((a ++ (s ++ (k ++ x))) ++ rest) in
    let first : whole ≡ front ++ (a ++ ((s ++ (k ++ x)) ++ rest)) = ap (λ (l : List ℕ). front ++ l) (append_assoc a (s ++ (k ++ x)) rest) in
    let second : whole ≡ (front ++ a) ++ (s ++ ((k ++ x) ++ rest)) = simp append_assoc in
    let third : whole ≡ ((front ++ a) ++ s) ++ (k ++ (x ++ rest)) = simp append_assoc in
    let fourth : whole ≡ (((front ++ a) ++ s) ++ k) ++ (x ++ rest) = simp append_assoc in
    let at8 : length (front ++ a) ≡ at + 8 = length-append front a ∙ (rw (place, length_bytes 8 memory.address)) in
    let at16 : length ((front ++ a) ++ s) ≡ at + 16 = length-append (front ++ a) s ∙ (rw (at8, length_bytes 8 memory.size) (omega arith)) in
    let at20 : length (((front ++ a) ++ s) ++ k) ≡ at + 20 = length-append ((front ++ a) ++ s) k ∙ (rw (at16, length_bytes 4 (of_z w32 memory.kind)) (omega arith)) in
    let address : number_at whole at 8 ≡ memory.address = rw first (number_back front _ at 8 memory.address place good.fits.address_fits) in
    let size : number_at whole (at + 8) 8 ≡ memory.size = rw second (number_back (front ++ a) _ (at + 8) 8 memory.size at8 good.fits.size_fits) in
    let kind : number_at whole (at + 16) 4 ≡ of_z w32 memory.kind = rw third (number_back ((front ++ a) ++ s) _ (at + 16) 4 (of_z w32 memory.kind) at16 (bits_fit memory.kind good.allowed)) in
    let auxiliary : number_at whole (at + 20) 4 ≡ memory.auxiliary = rw fourth (number_back (((front ++ a) ++ s) ++ k) rest (at + 20) 4 memory.auxiliary at20 good.fits.auxiliary_fits) in
    rw (address, size, kind, auxiliary, kind_back memory.kind good.allowed)

-- the bytes of the memory descriptor at a place are those that stand there
pub memory_again : (bytes : List ℕ) (at : ℕ) → AreBytes bytes → at + 24 ≤ length bytes → memory_bytes (memory_at bytes at) ≡ part bytes at 24
unfolding memory_bytes
memory_again bytes at each fits =
    let below : number_at bytes (at + 16) 4 < 2 ^ 32 = number_below bytes (at + 16) 4 each (omega arith) in
    let kind : of_z w32 (to_z w32 (number_at bytes (at + 16) 4)) ≡ number_at bytes (at + 16) 4 = of_z-to_z {w = w32} {n = number_at bytes (at + 16) 4} (record { fits = below }) in
    let rest8 : at + 8 + 8 ≡ at + 16 = omega arith in
    let rest4 : at + 16 + 4 ≡ at + 20 = omega arith in
    let one : part bytes at 24 ≡ part bytes at 8 ++ part bytes (at + 8) 16 = part_add bytes at 8 16 in
    let two : part bytes (at + 8) 16 ≡ part bytes (at + 8) 8 ++ part bytes (at + 16) 8 = part_add bytes (at + 8) 8 8 ∙ (rw rest8) in
    let three : part bytes (at + 16) 8 ≡ part bytes (at + 16) 4 ++ part bytes (at + 20) 4 = part_add bytes (at + 16) 4 4 ∙ (rw rest4) in
    rw (one, two, three, kind, bytes_at bytes at 8 each (omega arith), bytes_at bytes (at + 8) 8 each (omega arith), bytes_at bytes (at + 16) 4 each (omega arith), bytes_at bytes (at + 20) 4 each (omega arith))

-- and its numbers have their widths
pub memory_fits : (bytes : List ℕ) (at : ℕ) → AreBytes bytes → at + 24 ≤ length bytes → MemoryFits (memory_at bytes at)
memory_fits bytes at each fits =
    record {
      address_fits = number_below bytes at 8 each (omega arith);
      size_fits = number_below bytes (at + 8) 8 each (omega arith);
      auxiliary_fits = number_below bytes (at + 20) 4 each (omega arith);
    }
