-- The fault is the damage test's, packed.
use Rattle.std.specs.Prelude.{Some}
use mathlib.Core.Path.{refl, sym, ap, ◌∙◌}
use native.Mathlib.Omega.{arith}
use Rattle.reply.specs.declared.Fault.{Fault}
use Rattle.abi.proofs.PackingLaws.{place_inside, faults}
use Rattle.abi.proofs.rudozhev_damage.Goals as goal

pub overflow_add-place : goal.overflow_add-place
overflow_add-place c = omega (arith, place_inside _ _ _ (sym (c.in-Some.is ∙ ap (λ (f : Fault). Some f) c.in-AtPlace.is) ∙ c.first_fault.ensures))

pub returns-in_default : goal.returns-in_default
returns-in_default c = faults _ _ c.first_fault.ensures c.in_default.is refl

pub returns-in-Lengths : goal.returns-in-Lengths
returns-in-Lengths c = faults _ _ c.first_fault.ensures (c.in-Some.is ∙ ap (λ (f : Fault). Some f) c.in-Lengths.is) c.join.ensures

pub returns-in-AtRecord : goal.returns-in-AtRecord
returns-in-AtRecord c = faults _ _ c.first_fault.ensures (c.in-Some.is ∙ ap (λ (f : Fault). Some f) c.in-AtRecord.is) c.join-in-AtRecord.ensures

pub returns-in-AtPlace : goal.returns-in-AtPlace
returns-in-AtPlace c = faults _ _ c.first_fault.ensures (c.in-Some.is ∙ ap (λ (f : Fault). Some f) c.in-AtPlace.is) c.join-in-AtPlace.ensures
