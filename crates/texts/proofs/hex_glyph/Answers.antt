-- A digit below ten is a numeral, and any other a letter from `a` on.
use native.Mathlib.Omega.{arith}
use borrow.Author.Tests.{lt-ltb, le-ltb}
use Rattle.texts.proofs.hex_glyph.Goals as goal

pub returns-then-digit-lt10 : goal.returns-then-digit-lt10
returns-then-digit-lt10 c = rw (lt-ltb c.args.digit 10 c.if-digit-lt10.true)

pub returns : goal.returns
returns c = rw (le-ltb c.args.digit 10 c.if-digit-lt10.false) (omega arith)
