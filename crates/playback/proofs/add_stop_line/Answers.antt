-- Each arm writes the line of what it found, or none.
use Prim.Native.Nat.{ℕ}
use mathlib.Core.Path.{◌≡◌, refl, ap}
use mathlib.Core.Logic.{◌⊎◌, inl, inr}
use mathlib.Core.List.{[]}
use native.Mathlib.Omega.{arith}
use Rattle.interface.specs.Journal.{short}
use Rattle.playback.specs.Playing.{stop_of}
use Rattle.playback.specs.declared.Found.{Found}
use Rattle.playback.specs.declared.Found.TheVariants.{Nothing, Short, Whole}
use Rattle.texts.proofs.TextLaws.{wrote_nothing}
use Rattle.playback.proofs.LineLaws.{stop_none, stop_one}
use Rattle.playback.proofs.add_stop_line.Goals as goal

-- the end of the bytes has no line, and neither has a whole record
no_line : (next : Found) → (next ≡ Nothing) ⊎ ((kind : ℕ) × (size : ℕ) × (next ≡ Whole kind size)) → stop_of next ≡ []
no_line next (inl e) = ap stop_of e
no_line next (inr (kind, size, e)) = ap stop_of e

pub returns-in-Short : goal.returns-in-Short
returns-in-Short c = record { wrote = stop_one _ Short short c.in-Short.is refl c.add_line.ensures.wrote; upper_bound = c.add_line.ensures.upper_bound }

pub returns-in-Unknown : goal.returns-in-Unknown
returns-in-Unknown c = record { wrote = stop_one _ _ _ c.in-Unknown.is refl c.add_line-in-Unknown.ensures.wrote; upper_bound = c.add_line-in-Unknown.ensures.upper_bound }

pub returns-in-Nothing : goal.returns-in-Nothing
returns-in-Nothing c =
    let wrote = wrote_nothing c.args.out.now c.args.at (omega (arith, c.requires)) in
    record { wrote = stop_none c.args.next (no_line c.args.next c.in-Nothing.is) wrote; upper_bound = omega arith }
