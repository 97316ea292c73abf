-- An idle SC and a semaphore are tested at once; of any other record the tests are those of the rules, and a domain has a PD where it is one of as many numbers as there are PDs.
use Rattle.words.specs.Sizes.{records}
use Rattle.interface.proofs.Basics.BelowLaws.{all_below_at}
use Rattle.record_rules.proofs.PdLaws.{home_counted}
use Rattle.record_rules.proofs.RecordTests.{others_so, idle_keeps}
use borrow.Author.Rules.{rules}
use Rattle.record_rules.proofs.record_keeps.Goals as goal

pub returns-then-number-lt-CPUS : goal.returns-then-number-lt-CPUS
returns-then-number-lt-CPUS c =
    idle_keeps _ _ _ c.if-number-lt-CPUS.true (all_below_at records _ c.requires.0.used _ c.requires.1) c.fixed_keeps.ensures

pub semaphore_keeps-requires : goal.semaphore_keeps-requires
semaphore_keeps-requires c =
    search (all_below_at records _ c.requires.0.used _ c.requires.1, rules)

pub ec_keeps-requires : goal.ec_keeps-requires
ec_keeps-requires c = search (home_counted, rules)

pub returns : goal.returns
returns c =
    others_so _ _ _ _ _ _ _ _ (all_below_at records _ c.requires.0.used _ c.requires.1) c.fixed_keeps-2.ensures
    c.interrupt_keeps.ensures c.unnamed_keeps.ensures c.ec_keeps.ensures c.sc_keeps.ensures
    c.pt_keeps.ensures
