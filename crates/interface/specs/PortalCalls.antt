-- CALL.
use Rattle.std.specs.Prelude.{ℕ, not, ◌&&◌, eqb, length}
use Rattle.words.specs.Sizes.{block_words}
use Rattle.reply.specs.declared.Refusal.TheVariants.{ComTim, BadCap, BadPar, BadCpu}
use Rattle.interface.specs.Basics.{word}
use Rattle.interface.specs.Places.{State, PT, ec_word, domain_word, cpu_word, call_bit, object_place, permitted, object_in}
use Rattle.interface.specs.Verdicts.{Call, Verdict, deliver, require◌else◌then◌, caller_domain}
use Rattle.interface.specs.Message.{payload_fits, Moved, transfer}

-- CALL with any message: its checks, and then the message, from the caller's domain to that of the callee, which is the portal's EC. The answer counts the places filled
abbrev pub call_delivering : State → Call → (ℕ → ℕ → Moved) → Verdict
call_delivering s c message =
    let portal = object_place (caller_domain s c) c.first in
    let callee = s.objects (object_in s portal) ec_word in
    let moved = message (caller_domain s c) (s.objects callee domain_word) in
    require eqb (length c.source) block_words && eqb (length c.target) block_words else BadPar then
    require permitted s portal PT call_bit else BadCap then
    require not (eqb callee c.caller) else ComTim then
    require eqb (s.objects callee cpu_word) (s.objects c.caller cpu_word) else BadCpu then
    require payload_fits (word c.source 0) else BadPar then
    deliver moved.filled moved.effects moved.block

-- CALL: portal selector, the caller's message block and the callee's
unfoldable pub portal_call : State → Call → Verdict
portal_call s c = call_delivering s c (λ sender receiver. transfer s sender receiver c.source c.target)
