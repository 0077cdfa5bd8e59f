use Rattle.rm_walk_places.proofs.ReachedLemmas.{first_place, walk_place_is}
use Rattle.rm_walk_places.proofs.walk.walk_place.Goals as goal

pub returns-in_default : goal.returns-in_default
returns-in_default c = first_place c.args.bounds.now c.args.numbers.now c.in_default.ensures

pub returns : goal.returns
returns c = rw c.reached.ensures (walk_place_is c.args.bounds.now c.args.numbers.now c.in-Some.mark c.requires.some c.in-Some.ensures)
