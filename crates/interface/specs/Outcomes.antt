-- Outcomes: what a hypercall and boot come to on lent tables and blocks, as one value each, so that a promise of code is one equation.
use Rattle.std.specs.Prelude.{ℕ, ◌≡◌, List}
use Rattle.reply.specs.Replies.{Reply}
use Rattle.interface.specs.Places.{Tables, tables}
use Rattle.interface.specs.Verdicts.{Call}
use Rattle.interface.specs.Rules.{hypercall_reply, hypercall_tables, hypercall_block, boot_reply, boot_tables}

-- a hypercall by its number, its caller, its six words and the two blocks
abbrev pub call_of : ℕ → ℕ → ℕ → ℕ → ℕ → ℕ → ℕ → ℕ → List ℕ → List ℕ → Call
call_of number caller first second third fourth fifth sixth source target =
    record {
      number = number;
      caller = caller;
      first = first;
      second = second;
      third = third;
      fourth = fourth;
      fifth = fifth;
      sixth = sixth;
      source = source;
      target = target;
    }

-- what a hypercall comes to: its reply, both tables after it, and the callee's block
pub record Outcome : Type 0 where
  pub reply : Reply
  pub tables : Tables
  pub block : List ℕ

-- the outcome that the rules give
abbrev pub outcome : Tables → Call → Outcome
outcome tables c = record { reply = hypercall_reply tables c; tables = hypercall_tables tables c; block = hypercall_block tables c }

-- the same but for the callee's block
pub record Answered : Type 0 where
  pub reply : Reply
  pub tables : Tables

abbrev pub answered : Tables → Call → Answered
answered tables c = record { reply = hypercall_reply tables c; tables = hypercall_tables tables c }

-- what boot comes to on lent tables: its reply, and the tables that it leaves
pub record Booted (places objects places_after_lem objects_after_lem : List ℕ) (reply : Reply) : Type 0 where
  pub replies : reply ≡ boot_reply (tables places objects)
  pub leaves : tables places_after_lem objects_after_lem ≡ boot_tables (tables places objects)
