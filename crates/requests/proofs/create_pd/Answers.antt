-- A CREATE_PD whose initial descriptor is the null one.
use borrow.Author.Rules.{rules}
use Rattle.requests.proofs.EmptyDomainLaws.{asked_empty}
use Rattle.requests.proofs.create_pd.Goals as goal

pub returns : goal.returns
returns c = search (asked_empty, rules)
