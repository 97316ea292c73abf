-- A blank group passes at once. Each place of another is asked.
use Prim.Native.Nat.{◌+◌, ◌≤◌}
use mathlib.Core.Path.{◌≡◌, refl, sym, ◌∙◌}
use mathlib.Core.Bool.{true}
use native.Mathlib.Omega.{arith}
use Rattle.words.proofs.PlaceLaws.{space_small}
use Rattle.std.proofs.lemmas.Iterator.{YieldsList-from_range, serves_from_Range}
use Rattle.std.proofs.lemmas.Iterator.Search.{all_from_yields_List}
use Rattle.interface.specs.Places.{tables, view}
use Rattle.place_rules.specs.PlaceKeeping.{extent_of, Around}
use Rattle.words.specs.Sizes.{stride}
use Rattle.objects.proofs.WalkLaws.{all_range}
use Rattle.place_pass.specs.PassKeeping.{quick_keeps, group}
use Rattle.place_rules.proofs.PlaceTests.{extent_space, extent_own}
use Rattle.place_pass.proofs.GroupLaws.{around_home}
use Rattle.place_pass.proofs.QuickLaws.{blank_keeps}
use borrow.Author.Rules.{rules}
use borrow.Author.Tests.{tests}
use Rattle.place_pass.proofs.group_keeps.Goals as goal

pub group_is_blank-requires : goal.group_is_blank-requires
group_is_blank-requires c = (c.requires.0.places_long, omega (arith, c.requires.0.aligned))

pub returns-then-group_is_blank : goal.returns-then-group_is_blank
returns-then-group_is_blank c =
    let before = c.requires.0 in
    sym (blank_keeps _ _ group before.past_hypervisor before.passed (sym c.group_is_blank.ensures ∙ c.if-group_is_blank.true))

pub extent_of-extent-requires : goal.extent_of-extent-requires
extent_of-extent-requires c = rw c.space_of.ensures (space_small _)

pub all-requires-clause-callable : goal.all-requires-clause-callable
all-requires-clause-callable c =
    let passed = c.requires.0 in
    let made = c.extent_of-extent.ensures in
    serves_from_Range (λ x q k. search rules)
    (λ x from before.
    let around : Around (tables c.args.table.now c.args.objects.now) x c.extent_of-extent.result.space true =
    rw (extent_space _ _ made ∙ c.space_of.ensures) (around_home c.args.first x passed.aligned from before _ passed c.requires.1) in
    let own : c.extent_of-extent.result ≡ extent_of c.extent_of-extent.result.space = extent_own _ _ made in
    let past : stride ≤ x = omega (arith, passed.past_hypervisor) in
    search rules)

pub returns : goal.returns
returns c =
    let passes = quick_keeps (view c.args.table.now c.args.objects.now) in
    all_from_yields_List passes _ _ c.all.result c.all.ensures.ran
    (YieldsList-from_range c.args.first (c.args.first + group) group refl (omega arith)) (λ x b q k. search (rules, tests)) ∙
    rw (c.requires.0.passed) at (all_range passes group c.args.first)
