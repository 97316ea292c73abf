-- Each descriptor's type is tested where it stands.
use Prim.Native.Nat.{ℕ, ◌+◌, ◌*◌}
use mathlib.Core.Path.{refl, ap, ◌≡◌}
use mathlib.Core.Bool.{true, false}
use native.Mathlib.Omega.{arith}
use borrow.Author.Rules.{rules}
use lib.ListN.{get_or}
use Rattle.std.specs.List.{range_with_len}
use Rattle.std.proofs.lemmas.Iterator.{cases_from_all, YieldsList-from_range}
use Rattle.std.proofs.lemmas.List.FromFn.{length-range_with_len, get_or-range_with_len}
use Rattle.hip_format.specs.Format.{type_allowed}
use Rattle.hip_format.specs.Reader.{memory_at}
use Rattle.hip_format.proofs.TypeLaws.{all_tested}
use Rattle.hip_reader.proofs.are_allowed.Goals as goal

pub returns : goal.returns
returns c = let start = c.args in
    let kind = λ (i : ℕ). (memory_at start.bytes.now (start.start + 24 * i)).kind in
    all_tested (memory_at start.bytes.now) 24 start.start start.count kind (range_with_len 0 start.count) 0 c.all.result (length-range_with_len 0 start.count)
    (λ i more. let place : i ≡ get_or (range_with_len 0 start.count) i 0 = omega (arith, get_or-range_with_len 0 start.count i 0 more) in ap kind place)
    (cases_from_all _ _ _ (λ i. type_allowed (kind i) ≡ true) (λ i. type_allowed (kind i) ≡ false) c.all.ensures.ran
    (YieldsList-from_range 0 start.count start.count refl (omega arith)) (λ i q k. search rules) (λ i q k. search rules))
