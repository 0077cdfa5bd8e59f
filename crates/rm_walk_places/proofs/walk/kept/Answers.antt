use Rattle.std.proofs.Common.{◌≡◌, ◌≤◌, drop, arith}
use Rattle.rm_walk_places.proofs.LoweredLemmas.{fewer_kept, kept_most, kept_next}
use Rattle.rm_walk_places.proofs.walk.kept.Goals as goal

pub kept_here-kept-requires : goal.kept_here-kept-requires
kept_here-kept-requires c = rw c.loop-place.invariant (fewer_kept c.loop-place.place c.args.bounds.now (drop 1 c.args.numbers.now) c.requires.few)

pub loop-place-preserved : goal.loop-place-preserved
loop-place-preserved c =
    rw (c.kept_here-kept.ensures, c.number_at.ensures, c.loop-place.invariant)
    (kept_next c.loop-place.place c.args.bounds.now c.args.numbers.now (record { least = 0; greatest = 0 }) c.loop-place-test.true c.loop-place.auto.place)

pub returns-clause-most : goal.returns-clause-most
returns-clause-most c =
    let none : c.loop-place.place ≡ 0 = let first : c.loop-place.place ≤ 0 = c.loop-place-test.false in omega (arith, first) in
    rw (c.loop-place.invariant, none) (kept_most c.args.bounds.now (drop 1 c.args.numbers.now))
