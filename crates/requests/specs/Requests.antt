-- Requests: the hypercalls by name that send no message, as those who ask for them write them down.
use Rattle.std.specs.Prelude.{ℕ, ◌≡◌, List, []}
use Rattle.descriptor.specs.declared.Range.{Range}
use Rattle.reply.specs.Replies.{Reply}
use Rattle.interface.specs.Places.{tables}
use Rattle.interface.specs.Verdicts.{Call}
use Rattle.interface.specs.Outcomes.{answered, call_of}
use Rattle.interface.specs.Demand.{whole_mask}

-- a request that was made: its reply and both tables after it are those that the rules give for a call
abbrev pub Asked : List ℕ → List ℕ → List ℕ → List ℕ → Reply → Call → Type 0
Asked places objects places_after objects_after reply call =
    record { reply = reply; tables = tables places_after objects_after } ≡ answered (tables places objects) call

-- a range with a mask
abbrev pub masked_range : ℕ → ℕ → ℕ → ℕ → Range
masked_range space base order mask = record { space = space; base = base; order = order; mask = mask }

-- one whose mask has all five bits, so that lending by it holds no permission back
abbrev pub full_range : ℕ → ℕ → ℕ → Range
full_range space base order = masked_range space base order whole_mask

-- a call that sends no message: its number, its caller and its first three words
abbrev pub without_message : ℕ → ℕ → ℕ → ℕ → ℕ → Call
without_message number caller first second third = call_of number caller first second third 0 0 0 [] []

-- the CPU of the ECs that are made
abbrev pub cpu : ℕ
cpu = 0
