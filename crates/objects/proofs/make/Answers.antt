-- The words are copied over those of the record.
use mathlib.Core.Path.{◌∙◌, refl}
use native.Mathlib.Omega.{arith}
use Rattle.std.proofs.lemmas.Slice.{put_mid-paste}
use Rattle.words.specs.Sizes.{record_words}
use Rattle.objects.specs.Records.{words_of}
use Rattle.objects.proofs.RecordTableLaws.{copied}
use Rattle.objects.proofs.make.Goals as goal

pub returns : goal.returns
returns c =
    rw c.words_start-start.ensures
    (put_mid-paste _ _ _ _ (words_of c.args.words) record_words c.copy_from_slice.ensures.after (omega arith) refl ∙
    copied c.args.table.now (words_of c.args.words) c.args.number.0 c.requires.0 c.requires.1 refl)
