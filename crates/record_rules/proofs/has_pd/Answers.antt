-- Each record is asked whether it is the PD of the domain.
use mathlib.Core.Path.{refl, ◌∙◌}
use mathlib.Core.Bool.{Bool, ◌&&◌}
use mathlib.Core.List.{List}
use borrow.Author.Rules.{rules}
use borrow.Author.Tests.{tests}
use lib.Dec.{eqb}
use Prim.Native.Nat.{ℕ}
use Rattle.std.proofs.lemmas.Iterator.{YieldsList-from_range}
use Rattle.words.specs.Sizes.{records}
use Rattle.interface.specs.Places.{PD, kind_word, domain_word, object_at}
use Rattle.interface.specs.Damage.{has_pd}
use Rattle.objects.proofs.WalkLaws.{fold_any, any_numbers}
use Rattle.record_rules.proofs.has_pd.Goals as goal

-- whether a record is the PD of a domain
abbrev is_its_pd : List ℕ → ℕ → ℕ → Bool
is_its_pd table domain r = eqb (object_at table r kind_word) PD && eqb (object_at table r domain_word) domain

pub returns : goal.returns
unfolding has_pd
returns c =
    let test = is_its_pd c.args.objects.now c.args.domain in
    fold_any test _ _ _ _ (YieldsList-from_range 0 records records refl refl) c.fold.ensures.ran (λ a x b q k. search (rules, tests)) ∙
    any_numbers test records
