-- The empty line, or else the heads or that there is no row.
use native.Mathlib.Omega.{arith}
use Rattle.hip_text.proofs.LineLaws.{above_first, above_none, above_heads}
use Rattle.hip_text.proofs.put_above.Goals as goal

pub returns-then-index-eq0 : goal.returns-then-index-eq0
returns-then-index-eq0 c = λ rows counted. above_first c.args.none.now c.args.heads.now rows c.args.count c.args.index c.if-index-eq0.true c.put.ensures

pub returns-then-count-eq0 : goal.returns-then-count-eq0
returns-then-count-eq0 c = λ rows counted. above_none c.args.none.now c.args.heads.now rows c.args.count c.args.index (omega arith) counted c.if-count-eq0.true c.put-then-count-eq0.ensures

pub returns : goal.returns
returns c = λ rows counted. above_heads c.args.none.now c.args.heads.now rows c.args.count c.args.index (omega arith) counted c.if-count-eq0.false c.put-2.ensures
