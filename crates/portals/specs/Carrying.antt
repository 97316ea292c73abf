-- What CALL promises on sound tables.
use Rattle.std.specs.Prelude.{ℕ, ◌≡◌, List}
use Rattle.reply.specs.Replies.{Reply}
use Rattle.interface.specs.Places.{Tables, shown}
use Rattle.interface.specs.Verdicts.{Call, block_of}
use Rattle.interface.specs.Rules.{Runs}
use Rattle.interface.specs.PortalCalls.{portal_call}

-- the reply and the tables are those of the rule, and so is the callee's block
pub record Carries (c : Call) (before after : Tables) (block : List ℕ) (reply : Reply) : Type 0 where
  pub runs : Runs portal_call c before after reply
  pub gives : block ≡ block_of c.target (portal_call (shown before) c)
