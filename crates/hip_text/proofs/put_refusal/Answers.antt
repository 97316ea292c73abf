-- Each refusal has its own text.
use Rattle.hip_text.proofs.put_refusal.Goals as goal

pub returns-in-Short : goal.returns-in-Short
returns-in-Short c = rw c.in-Short.is c.put.ensures

pub returns-in-Signature : goal.returns-in-Signature
returns-in-Signature c = rw c.in-Signature.is c.put-in-Signature.ensures

pub returns-in-Length : goal.returns-in-Length
returns-in-Length c = rw c.in-Length.is c.put-in-Length.ensures

pub returns-in-Layout : goal.returns-in-Layout
returns-in-Layout c = rw c.in-Layout.is c.put-in-Layout.ensures

pub returns-in-Checksum : goal.returns-in-Checksum
returns-in-Checksum c = rw c.in-Checksum.is c.put-in-Checksum.ensures

pub returns-in-Type : goal.returns-in-Type
returns-in-Type c = rw c.in-Type.is c.put-in-Type.ensures
