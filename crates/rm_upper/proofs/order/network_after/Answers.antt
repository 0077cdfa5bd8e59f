use Rattle.rm_layers.specs.Marks.{IsAboveName}
use Rattle.rm_layers.proofs.MarkLemmas.{instance_none}
use Rattle.rm_upper.specs.Walk.{ShowsNetwork}
use Rattle.rm_upper.proofs.order.network_after.Goals as goal

pub returns-in-None : goal.returns-in-None
returns-in-None g c =
    instance_none g.O.Key.Ord.cmp (ShowsNetwork g.O.Key.PartialEq.eq (g.O.RowOrder.seen c.args.order.now)) c.args.mark (IsAboveName g.O.Key.Ord.cmp c.args.from)
    c.in_default.ensures.least c.in-None.ensures.least
