-- The test is the definition's.
use native.Mathlib.Omega.{arith}
use Rattle.transfer.proofs.ItemLaws.{source_hypervisor, source_own}
use Rattle.transfer.proofs.source_domain.Goals as goal

pub returns-then-second-sender : goal.returns-then-second-sender
returns-then-second-sender c = (source_hypervisor _ _ c.if-second-sender.true, omega arith)

pub returns : goal.returns
returns c = (source_own _ _ c.if-second-sender.false, omega arith)
