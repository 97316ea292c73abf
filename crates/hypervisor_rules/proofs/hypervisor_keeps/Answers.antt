-- Each stretch is as the definition of boot's places has it, and so are the idle SCs; the rest is null.
use mathlib.Core.Bool.{Bool, false, not}
use mathlib.Core.Path.{ap}
use Rattle.std.proofs.Common.{◌≡◌, ℕ, List, ◌+◌, ◌≤◌, ◌∙◌, refl, sym, arith}
use Rattle.words.specs.Sizes.{io, object, start, stride}
use Rattle.interface.specs.Basics.{all_below}
use Rattle.interface.specs.Places.{places_in}
use Rattle.interface.specs.Boot.{cpus, root_pd}
use Rattle.interface.specs.Damage.{fixed_place}
use Rattle.interface.proofs.Basics.LoopLaws.{all_below_none, all_below_within}
use Rattle.hypervisor_rules.proofs.BootStretches.{memory_stretch, io_stretch, interrupt_stretch, rest_decides}
use Rattle.hypervisor_rules.proofs.hypervisor_keeps.Goals as goal
use Rattle.hypervisor_rules.proofs.hypervisor_keeps.Goals.{Joined-stretch_keeps, Joined-stretch_keeps-2, Joined-idle_keep, then-stretch_keeps, else-stretch_keeps, then-stretch_keeps-2, else-stretch_keeps-2, then-idle_keep, else-idle_keep}

-- an answer for the places below a number is that for those below a later one where it is no
broken : (fixed : ℕ → Bool) (n m : ℕ) (answer value : Bool) → n ≤ m → answer ≡ all_below n fixed → answer ≡ false → value ≡ answer → value ≡ all_below m fixed
broken fixed n m answer value l asked no_lem e = e ∙ no_lem ∙ all_below_within fixed n m answer l asked (ap not no_lem)

-- whether the places below a number are fixed
abbrev are_fixed : List ℕ → ℕ → Bool
are_fixed table number = all_below number (fixed_place (places_in table))

-- what each test has told so far: the two stretches of pages and ports, the idle SCs behind them, and the interrupts behind these
two_told : (c : Joined-stretch_keeps) → c.if-stretch_keeps.value ≡ are_fixed c.args.table.now (start object)
two_told c =
    elim c.if-stretch_keeps.branch [
      | then-stretch_keeps w ↦ w.value-is ∙ w.stretch_keeps-then-stretch_keeps.ensures
      | else-stretch_keeps w ↦ broken _ (start io) (start object) _ _ (omega arith) c.stretch_keeps.ensures w.if-stretch_keeps.false w.value-is
    ]

three_told : (c : Joined-stretch_keeps-2) → c.if-stretch_keeps.value ≡ are_fixed c.args.table.now (start object) →
    c.if-stretch_keeps-2.value ≡ are_fixed c.args.table.now (start object + cpus)
three_told c two =
    elim c.if-stretch_keeps-2.branch [
      | then-stretch_keeps-2 w ↦ w.value-is ∙ w.idle_keep.ensures
      | else-stretch_keeps-2 w ↦ broken _ (start object) (start object + cpus) _ _ (omega arith) two w.if-stretch_keeps-2.false w.value-is
    ]

four_told : (c : Joined-idle_keep) → c.if-stretch_keeps-2.value ≡ are_fixed c.args.table.now (start object + cpus) →
    c.if-idle_keep.value ≡ are_fixed c.args.table.now (start object + root_pd)
four_told c three =
    elim c.if-idle_keep.branch [
      | then-idle_keep w ↦ w.value-is ∙ w.stretch_keeps-then-idle_keep.ensures
      | else-idle_keep w ↦ broken _ (start object + cpus) (start object + root_pd) _ _ (omega arith) three w.if-idle_keep.false w.value-is
    ]

pub stretch_keeps-requires : goal.stretch_keeps-requires
stretch_keeps-requires c = (c.requires, memory_stretch, all_below_none _)

pub stretch_keeps-requires-then-stretch_keeps : goal.stretch_keeps-requires-then-stretch_keeps
stretch_keeps-requires-then-stretch_keeps c = (c.requires, io_stretch, sym c.stretch_keeps.ensures ∙ c.if-stretch_keeps.true)

pub stretch_keeps-requires-then-idle_keep : goal.stretch_keeps-requires-then-idle_keep
stretch_keeps-requires-then-idle_keep c =
    let at = goal.at.stretch_keeps-requires-then-idle_keep c in
    (c.requires, interrupt_stretch, sym (three_told at.Joined-stretch_keeps-2 (two_told at.Joined-stretch_keeps)) ∙ c.if-idle_keep.true)

pub returns-then-stretch_keeps-3 : goal.returns-then-stretch_keeps-3
returns-then-stretch_keeps-3 c =
    let at = goal.at.returns-then-stretch_keeps-3 c in
    let four = four_told at.Joined-idle_keep (three_told at.Joined-stretch_keeps-2 (two_told at.Joined-stretch_keeps)) in
    c.is_blank.ensures ∙ rest_decides _ (sym four ∙ c.if-stretch_keeps-3.true)

pub returns-else-stretch_keeps-3 : goal.returns-else-stretch_keeps-3
returns-else-stretch_keeps-3 c =
    let at = goal.at.returns-else-stretch_keeps-3 c in
    let four = four_told at.Joined-idle_keep (three_told at.Joined-stretch_keeps-2 (two_told at.Joined-stretch_keeps)) in
    broken _ (start object + root_pd) stride _ _ (omega arith) four c.if-stretch_keeps-3.false refl
