-- The reading, packed; both counts are those of a page of at most 65,535 bytes.
use native.Mathlib.Omega.{arith}
use Rattle.hip_reader.proofs.ReadLaws.{refuses, accepts, short_page}
use Rattle.abi.proofs.PagePackingLaws.{reads_refused, reads_accepted}
use Rattle.abi.proofs.pages.rudozhev_hip_read.Goals as goal

pub overflow_mul-result : goal.overflow_mul-result
overflow_mul-result c = let bytes = c.args.page.now in
    let page = accepts bytes _ _ c.read.ensures c.in-Ok.is in
    omega (arith, page, short_page bytes _ (λ i. (c.type_inv.page i).fits) page)

pub overflow_add-result : goal.overflow_add-result
overflow_add-result c = let bytes = c.args.page.now in
    let page = accepts bytes _ _ c.read.ensures c.in-Ok.is in
    omega (arith, page, short_page bytes _ (λ i. (c.type_inv.page i).fits) page)

pub returns-in-Err : goal.returns-in-Err
returns-in-Err c = let start = c.args in
    reads_refused start.page.now start.fields.now _ _ _ (refuses start.page.now _ _ c.read.ensures c.in-Err.is) c.from.ensures c.join.ensures

pub returns-in-Ok : goal.returns-in-Ok
returns-in-Ok c = let start = c.args in
    rw c.fields.ensures (reads_accepted start.page.now start.fields.now _ (accepts start.page.now _ _ c.read.ensures c.in-Ok.is))
