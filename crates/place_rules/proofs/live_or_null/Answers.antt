-- A null place keeps the rule, and a live one is tested with what the search for its domain's PD found.
use borrow.Author.Rules.{rules}
use Rattle.record_rules.proofs.PdLaws.{home_found}
use Rattle.place_rules.proofs.PlaceTests.{live_null}
use Rattle.place_rules.proofs.live_or_null.Goals as goal

pub returns-then-cap-eq0 : goal.returns-then-cap-eq0
returns-then-cap-eq0 c = search (live_null, rules)

pub live_keeps-requires : goal.live_keeps-requires
live_keeps-requires c = search (home_found, rules)
