use Rattle.rm_protocols.specs.Group.{distributed_cells}
use Rattle.rm_protocols.proofs.group.ProtocolTablesReadable.shows.Goals as goal

pub returns : goal.returns
unfolding distributed_cells
returns c settings journal stands later asked name = c.shows.ensures settings journal stands.distribution later tt name
