use Rattle.std.proofs.Common.{option_copied}
use Rattle.rm_order.proofs.PlaceLemmas.{first_passing, lent_item}
use Rattle.rm_order.proofs.search.first_key.Goals as goal

pub returns : goal.returns
returns g c = first_passing g.K.Ord.cmp g.met.K.Ord.total (g.A.Above.is_above c.args.point.now) c.args.keys.now c.requires.rising c.first_place.result c.first_place.ensures (option_copied c.get.result)
    (lent_item c.args.keys.now c.first_place.result c.get.result c.get.ensures.lookup)
