-- Every other kind names no words.
use borrow.Author.Rules.{rules}
use Rattle.objects.proofs.GreatestLaws.{no_named_words}
use Rattle.objects.proofs.named_words.Goals as goal

pub returns-in_default : goal.returns-in_default
returns-in_default c = search (no_named_words, rules)
