-- The place is that of the selector, and what it holds tells both.
use Rattle.creations.proofs.bind.Goals as goal

pub returns : goal.returns
returns c =
    let place = c.object_place-place.ensures.0 in (rw (c.load.ensures, place), rw (c.is_permitted.ensures, place))
