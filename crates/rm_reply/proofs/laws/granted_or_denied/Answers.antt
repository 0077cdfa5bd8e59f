use Rattle.rm_model.specs.Readings.{nothing_read}
use Rattle.rm_reply.proofs.Granted.{of_reply}
use Rattle.rm_reply.proofs.laws.granted_or_denied.Goals as goal

pub returns : goal.returns
returns g c settings journal now may_write request reply after is =
    of_reply (g.G.Group.cells settings journal now) g.G.Objects.objects g.G.Group.alone (g.G.Group.together settings journal now nothing_read) (g.G.Stores.reserves settings journal) may_write now
    journal request reply after is
