use Rattle.rm_evicting.specs.Stands.{IsTotal}
use Rattle.rm_evicting.proofs.Keys.{exact_key}
use Rattle.rm_evicting.proofs.RankLemmas.{order-at, takes_place-is}
use Rattle.rm_evicting.proofs.ranks.Goals as goal

pub returns : goal.returns
returns g c =
    let exact = exact_key g.K.PartialEq.eq g.K.Ord.cmp g.met.K.Eq.laws g.met.K.Ord.matches_eq g.met.K.Key.exact in
    record {
      order = λ blank add cap r rows stands i row is. order-at g.K.PartialEq.eq exact (IsTotal blank add) cap r rows stands i row is;
      evicts = λ blank add cap r rows stands k. takes_place-is g.K.PartialEq.eq exact (IsTotal blank add) cap r rows stands k;
    }
