-- Replies and faults as numbers of 64 bits.
use Rattle.std.specs.Prelude.{ℕ, ◌+◌, ◌*◌, List, Option, Some, None}
use Rattle.words.specs.Sizes.{records}
use Rattle.reply.specs.Replies.{status_of, answer_of, Reply}
use Rattle.reply.specs.declared.Fault.{Fault}
use Rattle.reply.specs.declared.Fault.TheVariants.{Lengths, AtRecord, AtPlace}
use Rattle.interface.specs.Places.{Tables}
use Rattle.interface.specs.Rules.{boot_reply, boot_tables}
use Rattle.interface.specs.Census.{CensusResult}
use Rattle.interface.specs.Outcomes.{Outcome}
use Rattle.repair_rules.specs.Repair.{Repairing}

-- two numbers of 32 bits in one
abbrev pub joined : ℕ → ℕ → ℕ
joined high low = high * 4294967296 + low

-- a reply: its status, then its answer
abbrev pub packed : Reply → ℕ
packed reply = joined (status_of reply) (answer_of reply)

-- the first fault of tables: its rule, then the record, or the place counted from the number of records on; 0 where there is none
abbrev pub packed_fault : Option Fault → ℕ
packed_fault None = 0
packed_fault (Some Lengths) = joined 1 0
packed_fault (Some (AtRecord rule number)) = joined rule number
packed_fault (Some (AtPlace rule place)) = joined rule (records + place)

-- what boot, a hypercall and a census come to, with the reply as a number
pub record Booting : Type 0 where
  pub word : ℕ
  pub tables : Tables

abbrev pub booting : Tables → Booting
booting tables = record { word = packed (boot_reply tables); tables = boot_tables tables }

-- what repair comes to, as boot does
abbrev pub mending : Repairing → Booting
mending repairing = record { word = packed repairing.reply; tables = repairing.tables }

pub record Calling : Type 0 where
  pub word : ℕ
  pub tables : Tables
  pub block : List ℕ

abbrev pub calling : Outcome → Calling
calling outcome = record { word = packed outcome.reply; tables = outcome.tables; block = outcome.block }

pub record Counting : Type 0 where
  pub word : ℕ
  pub list : List ℕ

abbrev pub counting : CensusResult → Counting
counting result = record { word = packed result.reply; list = result.list }
