-- The count is that of the PDs before the record.
use Prim.Native.Nat.{ℕ}
use mathlib.Core.Path.{◌∙◌}
use mathlib.Core.Bool.{Bool}
use mathlib.Core.List.{List}
use lib.Dec.{eqb}
use borrow.Author.Rules.{rules}
use borrow.Author.Tests.{tests}
use native.Mathlib.Omega.{arith}
use Rattle.std.proofs.lemmas.Iterator.{YieldsList-from_range}
use Rattle.std.proofs.lemmas.Iterator.Consumers.{YieldsList-from_filter, count_from_yields_List}
use Rattle.interface.specs.Places.{PD, kind_word, object_at}
use Rattle.interface.specs.Damage.{pds_below}
use Rattle.objects.proofs.WalkLaws.{counted_numbers}
use Rattle.objects.proofs.pds_below.Goals as goal

-- whether a record is a PD's
abbrev is_pd : List ℕ → ℕ → Bool
is_pd table r = eqb (object_at table r kind_word) PD

pub returns : goal.returns
unfolding pds_below
returns c =
    let table = c.args.table.now in
    count_from_yields_List c.filter.result _ c.count.ensures.ran
    (YieldsList-from_filter _ (is_pd table) (YieldsList-from_range 0 c.args.number c.args.number c.filter.ensures.source (omega arith)) c.filter.ensures.closure (λ x b q k. search (rules, tests))) ∙
    counted_numbers (is_pd table) c.args.number
