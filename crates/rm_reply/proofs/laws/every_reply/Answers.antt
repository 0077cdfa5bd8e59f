use Rattle.rm_model.specs.Readings.{nothing_read}
use Rattle.rm_reply.proofs.EveryReply.{request_some}
use Rattle.rm_reply.proofs.laws.every_reply.Goals as goal

pub returns : goal.returns
returns g c settings journal now may_write request asks short =
    let cells = g.G.Group.cells settings journal now in
    request_some c.bindings_lengthen.ensures c.empty_messages_are_short.ensures cells g.G.Objects.objects
    (c.next_or_none.ensures cells (c.cells_are_finite.ensures settings journal now)) g.G.Group.alone (g.G.Group.together settings journal now nothing_read) (g.G.Stores.reserves settings journal) may_write
    now journal request short asks
