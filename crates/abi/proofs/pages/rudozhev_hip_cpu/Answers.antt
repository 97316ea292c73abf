-- The descriptor that is found, packed.
use mathlib.Core.Path.{refl, sym, ap, ◌∙◌}
use Prim.Native.Nat.{ℕ}
use mir.Syntax.{w32}
use native.Mathlib.Omega.{arith}
use Rattle.endian.proofs.LibraryLaws.{number_read}
use Rattle.hip_format.specs.Format.{cpu_bytes}
use Rattle.abi.specs.Packing.{joined}
use Rattle.abi.proofs.PagePackingLaws.{packs_cpu}
use Rattle.abi.proofs.pages.rudozhev_hip_cpu.Goals as goal

pub returns-in-None : goal.returns-in-None
returns-in-None c = packs_cpu (sym c.in-None.is ∙ c.cpu.ensures) refl

pub returns-in-Some : goal.returns-in-Some
returns-in-Some c = packs_cpu (sym c.in-Some.is ∙ c.cpu.ensures) (c.join.ensures ∙ ap (λ (n : ℕ). joined 1 n) (c.from_le_bytes.ensures ∙ number_read w32 (cpu_bytes c.in-Some.cpu) (omega arith) refl))
