use Rattle.rm_evicting.proofs.Keys.{exact_key}
use Rattle.rm_order.proofs.ReversedLemmas.{alike_of}
use Rattle.rm_reversed.proofs.StandingLemmas.{stands_for-of}
use Rattle.rm_reversed.proofs.stands.Goals as goal

pub returns : goal.returns
returns g c = λ tally events layered stands.
    let exact = exact_key g.K.PartialEq.eq g.K.Ord.cmp g.met.K.Eq.laws g.met.K.Ord.matches_eq g.met.K.Key.exact in
    let to = g.K.Reversible.reversing in
    let twice = g.met.K.Reversible.twice in
    stands_for-of g.K.PartialEq.eq to twice (alike_of g.K.PartialEq.eq exact to twice) tally events layered stands
