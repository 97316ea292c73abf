-- Tables of other lengths stay, and those of the right ones are filled whole.
use borrow.Author.Rules.{rules}
use Rattle.boot.proofs.FillingLaws.{places_sized, objects_sized, booted_not, booted}
use Rattle.boot.proofs.boot.Goals as goal

pub returns-then-not-are_sized : goal.returns-then-not-are_sized
returns-then-not-are_sized c = search (booted_not, rules)

pub fill_places-requires : goal.fill_places-requires
fill_places-requires c = search (places_sized, rules)

pub fill_objects-requires : goal.fill_objects-requires
fill_objects-requires c = search (objects_sized, rules)

pub returns : goal.returns
returns c = search (booted, rules)
