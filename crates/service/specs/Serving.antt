-- Serving a hypercall: the call that the arguments make, and what serving it promises.
use Rattle.std.specs.Prelude.{ℕ, ◌≡◌, List}
use Rattle.reply.specs.Replies.{Reply}
use Rattle.interface.specs.Places.{Tables}
use Rattle.interface.specs.Verdicts.{Call}
use Rattle.interface.specs.Outcomes.{call_of, outcome}
use Rattle.service.specs.declared.CallWords.{CallWords}

-- a hypercall by its number, its caller, its words and the two blocks
abbrev pub call_with : ℕ → ℕ → CallWords → List ℕ → List ℕ → Call
call_with number caller words source target =
    call_of number caller words.first words.second words.third words.fourth words.fifth words.sixth source target

-- what code that serves a call promises: its reply, the tables after it and the callee's block are the outcome that the rules give for the tables before it
abbrev pub Serves : Call → Tables → Tables → List ℕ → Reply → Type 0
Serves c before after block reply = record { reply = reply; tables = after; block = block } ≡ outcome before c
