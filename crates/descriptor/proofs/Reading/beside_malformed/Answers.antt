-- The arm tells the variant, and the rule computes.
use Rattle.descriptor.specs.Descriptors.{matched}
use Rattle.descriptor.proofs.Reading.beside_malformed.Goals as goal

pub returns-in-Null : goal.returns-in-Null
unfolding matched
returns-in-Null c = rw c.in-Null.is

pub returns-in-Malformed : goal.returns-in-Malformed
unfolding matched
returns-in-Malformed c = rw c.in-Malformed.is

pub returns-in-Good : goal.returns-in-Good
unfolding matched
returns-in-Good c = rw c.in-Good.is
