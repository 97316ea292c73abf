-- The places before the loop's offset are handed on.
use Prim.Native.Nat.{◌<◌}
use native.Mathlib.Omega.{arith}
use borrow.Author.Rules.{rules}
use Rattle.words.specs.Sizes.{object, selectors}
use Rattle.interface.specs.Basics.{listed}
use Rattle.creation_rule.proofs.InitialLaws.{hands_none, hands_more}
use Rattle.creation_rule.proofs.hand_on.Goals as goal

pub loop-offset-init : goal.loop-offset-init
unfolding listed
loop-offset-init c = search (hands_none, rules)

pub loop-offset-preserved : goal.loop-offset-preserved
loop-offset-preserved c =
    let range = c.args.range in
    let small : c.at-selector.result.0 < selectors object = rw c.requires.4 at c.at-selector.ensures.1 in
    record {
      sized = search rules;
      handed =
          hands_more c.args.from c.args.to range.base range.mask c.loop-offset.offset c.loop-offset.invariant.sized (omega arith) c.at-selector.ensures.0
          c.of-destination.ensures c.of-source.ensures c.mask.ensures c.loop-offset.invariant.handed c.give.ensures;
    }
