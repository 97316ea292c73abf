-- The five texts of the title follow one another.
use native.Mathlib.Omega.{arith}
use Rattle.hip_text.proofs.LineLaws.{wrote_title}
use Rattle.hip_text.proofs.put_title.Goals as goal

pub returns : goal.returns
returns c = wrote_title (omega (arith, c.requires)) c.args.bytes c.args.checksum c.put-bytes_at.ensures c.put_short-text_at.ensures.wrote c.put-checksum_at.ensures c.put_short-end.ensures.wrote c.put.ensures
