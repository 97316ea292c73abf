-- Each way out is one of the fixed records, or no fixed record.
use borrow.Author.Rules.{rules}
use Rattle.record_rules.proofs.RecordTests.{fixed_idle, fixed_pd, fixed_ec, fixed_sc, fixed_other}
use Rattle.record_rules.proofs.fixed_keeps.Goals as goal

pub returns-then-number-lt-CPUS : goal.returns-then-number-lt-CPUS
returns-then-number-lt-CPUS c = search (fixed_idle, rules)

pub returns-then-number-eq-ROOT_PD : goal.returns-then-number-eq-ROOT_PD
returns-then-number-eq-ROOT_PD c = search (fixed_pd, rules)

pub returns-then-number-eq-ROOT_EC : goal.returns-then-number-eq-ROOT_EC
returns-then-number-eq-ROOT_EC c = search (fixed_ec, rules)

pub returns-then-number-eq-ROOT_SC : goal.returns-then-number-eq-ROOT_SC
returns-then-number-eq-ROOT_SC c = search (fixed_sc, rules)

pub returns : goal.returns
returns c = search (fixed_other, rules)
