-- The reply of a hypercall or a census: its status number and its answer.
use Rattle.std.specs.Prelude.{ℕ, Result, Ok, Err}
use Rattle.reply.specs.declared.Refusal.{Refusal}
use Rattle.reply.specs.declared.Refusal.TheVariants.{ComTim, BadHyp, BadCap, BadPar, BadCpu, NoRoom, Damaged, BadCaller, Short}

-- an answer, or a refusal
abbrev pub Reply : Type 0
Reply = Result ℕ Refusal

-- the number of a refusal's status
abbrev pub refusal_status : Refusal → ℕ
refusal_status ComTim = 1
refusal_status BadHyp = 3
refusal_status BadCap = 4
refusal_status BadPar = 5
refusal_status BadCpu = 7
refusal_status NoRoom = 16
refusal_status Damaged = 17
refusal_status BadCaller = 18
refusal_status (Short needed) = 19

-- the number of a reply's status
abbrev pub status_of : Reply → ℕ
status_of (Ok answer) = 0
status_of (Err refusal) = refusal_status refusal

-- a refusal's answer: 0 where its status has none
abbrev pub refusal_answer : Refusal → ℕ
refusal_answer ComTim = 0
refusal_answer BadHyp = 0
refusal_answer BadCap = 0
refusal_answer BadPar = 0
refusal_answer BadCpu = 0
refusal_answer NoRoom = 0
refusal_answer Damaged = 0
refusal_answer BadCaller = 0
refusal_answer (Short needed) = needed

-- a reply's answer
abbrev pub answer_of : Reply → ℕ
answer_of (Ok answer) = answer
answer_of (Err refusal) = refusal_answer refusal
