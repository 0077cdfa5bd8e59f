use Rattle.std.specs.Ordering.{nat_cmp}
use Rattle.rm_layers.specs.Marks.{IsAboveApplication, pair_cmp}
use Rattle.rm_layers.proofs.MarkLemmas.{instance_none}
use Rattle.rm_upper.specs.Walk.{ShowsApplication}
use Rattle.rm_upper.proofs.order.application_after.Goals as goal

pub returns-in-None : goal.returns-in-None
returns-in-None g c =
    instance_none (pair_cmp g.O.Key.Ord.cmp nat_cmp) (ShowsApplication g.O.Key.PartialEq.eq (g.O.RowOrder.seen c.args.order.now)) c.args.mark (IsAboveApplication g.O.Key.Ord.cmp c.args.from)
    c.in_default.ensures.least c.in-None.ensures.least
