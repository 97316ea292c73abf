-- Each number's words are the definition's, and zeros after them change none.
use borrow.Author.Rules.{rules}
use Rattle.boot.proofs.BootCapLaws.{idle_words, interrupt_words, pd_words, ec_words, sc_words, free_words}
use Rattle.boot.proofs.boot_record.Goals as goal

pub returns-then-number-lt-CPUS : goal.returns-then-number-lt-CPUS
returns-then-number-lt-CPUS c = search (idle_words, rules)

pub returns-then-number-lt-ROOT_PD : goal.returns-then-number-lt-ROOT_PD
returns-then-number-lt-ROOT_PD c = search (interrupt_words, rules)

pub returns-then-number-eq-ROOT_PD : goal.returns-then-number-eq-ROOT_PD
returns-then-number-eq-ROOT_PD c = search (pd_words, rules)

pub returns-then-number-eq-ROOT_EC : goal.returns-then-number-eq-ROOT_EC
returns-then-number-eq-ROOT_EC c = search (ec_words, rules)

pub returns-then-number-eq-ROOT_SC : goal.returns-then-number-eq-ROOT_SC
returns-then-number-eq-ROOT_SC c = search (sc_words, rules)

pub returns : goal.returns
returns c = search (free_words, rules)
