use Rattle.std.proofs.Common.{refl, ap}
use Rattle.rm_evicting.specs.Stands.{IsTotal}
use Rattle.rm_evicting.proofs.Keys.{exact_key, stands_for}
use Rattle.rm_evicting.proofs.stands_for.Goals as goal

pub returns : goal.returns
returns g c = λ blank add cap r some rising.
    stands_for g.K.PartialEq.eq (exact_key g.K.PartialEq.eq g.K.Ord.cmp g.met.K.Eq.laws g.met.K.Ord.matches_eq g.met.K.Key.exact) (IsTotal blank add) blank add (record { nothing = refl; more = λ cs x v h. ap (λ w. add w x) h }) cap r some rising
