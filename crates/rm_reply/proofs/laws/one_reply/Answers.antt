use Rattle.std.proofs.Common.{refl}
use Rattle.rm_model.specs.Readings.{nothing_read}
use Rattle.rm_reply.proofs.OneReply.{request_one}
use Rattle.rm_reply.proofs.laws.one_reply.Goals as goal

pub returns : goal.returns
returns g c settings journal now may_write request a b after later nothing p q =
    request_one (g.G.Group.cells settings journal now) g.G.Objects.objects g.G.Group.alone (g.G.Group.together settings journal now nothing_read)
    (g.G.Stores.reserves settings journal) may_write now journal request a b after later nothing request.kind refl p q
