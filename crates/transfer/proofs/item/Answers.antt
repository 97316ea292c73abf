-- The item is delegated or translated as its second word says, and null where its descriptors do not match.
use Rattle.windows.proofs.WindowLaws.{is_matched}
use Rattle.transfer.proofs.ItemLaws.{delegated_null, delegated_both, translated_null, translated_both}
use Rattle.transfer.proofs.item.Goals as goal

pub invariant_of-pair : goal.invariant_of-pair
invariant_of-pair c = record { matched = is_matched c.args.descriptor c.args.delegating _ _ c.requires.5 c.matching.ensures c.in-Ok.is }

pub returns-in-Err : goal.returns-in-Err
returns-in-Err c = let a = c.args in
    rw c.null_item.ensures
    (delegated_null a.table.now a.sender a.receiver a.descriptor a.second a.translating a.delegating c.if-second-eq1.true
    c.matching.ensures _ c.in-Err.is c.requires.0)

pub returns-in-Ok : goal.returns-in-Ok
returns-in-Ok c = let a = c.args in
    delegated_both a.table.now a.sender a.receiver a.descriptor a.second a.translating a.delegating c.if-second-eq1.true
    c.matching.ensures c.in-Ok.is c.delegate_item.ensures

pub translate-requires : goal.translate-requires
translate-requires c = (
  c.requires.0,
  c.requires.1,
  c.requires.2,
  c.requires.3,
  is_matched c.args.descriptor c.args.translating _ _ c.requires.4 c.matching-2.ensures c.in-Ok-matching.is,
)

pub returns-in-Err-matching : goal.returns-in-Err-matching
returns-in-Err-matching c = let a = c.args in
    rw c.null_item-in-Err-matching.ensures
    (translated_null a.table.now a.sender a.receiver a.descriptor a.second a.translating a.delegating c.if-second-eq1.false
    c.matching-2.ensures _ c.in-Err-matching.is c.requires.0)

pub returns-in-Ok-matching : goal.returns-in-Ok-matching
returns-in-Ok-matching c = let a = c.args in
    translated_both a.table.now a.sender a.receiver a.descriptor a.second a.translating a.delegating c.if-second-eq1.false
    c.matching-2.ensures c.in-Ok-matching.is
    (is_matched a.descriptor a.translating _ _ c.requires.4 c.matching-2.ensures c.in-Ok-matching.is) c.translate.ensures c.requires.0
