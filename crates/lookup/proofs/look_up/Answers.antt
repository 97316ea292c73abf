-- The reply is the rule's for each reading of the descriptor.
use mathlib.Core.Path.{◌≡◌, sym, ◌∙◌}
use Rattle.descriptor.specs.Descriptors.{reading}
use Rattle.descriptor.proofs.DescriptorLaws.{reading_kept, good_proper}
use Rattle.interface.proofs.History.LentOutLaws.{permissions_small}
use Rattle.capabilities.proofs.CallerLaws.{sized_places, called_sound}
use Rattle.lookup.proofs.AnswerLaws.{null_answer, malformed_answer, good_answer}
use Rattle.lookup.proofs.look_up.Goals as goal
use Rattle.lookup.proofs.look_up.Goals.{After-read}

-- what is read is what the descriptor says
is_reading : (c : After-read) → reading c.args.descriptor ≡ c.read.result
is_reading c = sym (rw (c.from_word.ensures, reading_kept) at c.read.ensures)

pub found-requires : goal.found-requires
found-requires c =
    let called = c.requires in (
      sized_places called,
      c.domain-domain.ensures.1,
      good_proper _ _ (is_reading (goal.at.found-requires c).After-read ∙ c.in-Good.is),
      (λ p l. permissions_small _ p (called_sound called) l),
    )

pub returns-in-Null : goal.returns-in-Null
returns-in-Null c call is_caller is_first =
    rw c.word.ensures (null_answer _ (is_reading (goal.at.returns-in-Null c).After-read ∙ c.in-Null.is) call is_first)

pub returns-in-Malformed : goal.returns-in-Malformed
returns-in-Malformed c call is_caller is_first = malformed_answer _ (is_reading (goal.at.returns-in-Malformed c).After-read ∙ c.in-Malformed.is) call is_first

pub returns-in-Good : goal.returns-in-Good
returns-in-Good c call is_caller is_first =
    good_answer _ (is_reading (goal.at.returns-in-Good c).After-read ∙ c.in-Good.is) c.domain-domain.ensures.0 (c.found.ensures c.args.objects.now)
    call is_caller is_first
