-- The tests are the definition's.
use Prim.Native.Nat.{◌%◌}
use native.Mathlib.Omega.{arith}
use borrow.Author.Tests.{lt-ltb, le-ltb}
use Rattle.words.specs.Sizes.{io, object, start, stride, space_of}
use Rattle.layout.proofs.Place.space.Goals as goal

pub returns-then-at-lt-IO_START : goal.returns-then-at-lt-IO_START
unfolding space_of
returns-then-at-lt-IO_START c = rw (lt-ltb (c.args.self.0 % stride) (start io) (omega arith))

pub returns-then-at-lt-OBJECT_START : goal.returns-then-at-lt-OBJECT_START
unfolding space_of
returns-then-at-lt-OBJECT_START c =
    rw (
      le-ltb (c.args.self.0 % stride) (start io) (omega arith),
      lt-ltb (c.args.self.0 % stride) (start object) (omega arith),
    )

pub returns : goal.returns
unfolding space_of
returns c =
    rw (
      le-ltb (c.args.self.0 % stride) (start io) (omega arith),
      le-ltb (c.args.self.0 % stride) (start object) (omega arith),
    )
