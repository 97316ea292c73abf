-- Each type of the list is tested, whatever the other numbers are.
use Prim.Native.Nat.{◌+◌, ◌*◌}
use mathlib.Core.Path.{◌≡◌}
use mathlib.Core.Bool.{true, false}
use native.Mathlib.Omega.{arith}
use lib.IntN.{pos}
use lib.ListN.{take}
use lib.Seq.{length-take-le}
use borrow.Author.Rules.{rules}
use Rattle.std.proofs.lemmas.Iterator.{cases_from_all, YieldsList-from_slice}
use Rattle.std.proofs.lemmas.List.{get_or-take}
use Rattle.hip_format.specs.Format.{type_allowed}
use Rattle.hip_format.specs.Writer.{memory_given}
use Rattle.hip_format.proofs.TypeLaws.{all_tested}
use Rattle.hip_writer.proofs.are_allowed.Goals as goal

pub returns : goal.returns
returns c = let kinds = c.args.kinds.now in
    let count = c.args.count in
    λ a s x.
    all_tested (memory_given a s kinds x) 1 0 count (λ kind. kind) (take count kinds) (pos 0) c.all.result (length-take-le count kinds c.requires)
    (λ i more. let same : 0 + 1 * i ≡ i = omega arith in rw (same, get_or-take count kinds i (pos 0) more))
    (cases_from_all _ _ _ (λ kind. type_allowed kind ≡ true) (λ kind. type_allowed kind ≡ false) c.all.ensures.ran
    (YieldsList-from_slice (take count kinds) (search rules)) (λ kind q k. search rules) (λ kind q k. search rules))
