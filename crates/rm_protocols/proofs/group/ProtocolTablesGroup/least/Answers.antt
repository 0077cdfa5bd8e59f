use Rattle.rm_dir.specs.Tables.{directory_cells}
use Rattle.rm_dist.specs.DistStats.{dist_cells}
use Rattle.rm_hl_hosts.specs.Collection.{host_collection}
use Rattle.rm_hl_matrices.specs.Collection.{pair_collection}
use Rattle.rm_protocols.specs.Group.{protocol_cells}
use Rattle.rm_protocols.proofs.group.ProtocolTablesGroup.least.Goals as goal

pub returns-clause-from : goal.returns-clause-from
unfolding protocol_cells
returns-clause-from c settings journal now =
    c.least_of.ensures.from (directory_cells journal) (dist_cells settings journal)
    (host_collection.cells settings journal now) (pair_collection.cells settings journal now)
    (c.least.ensures.from settings journal now) (c.least-2.ensures.from settings journal now)
    (c.least-3.ensures.from settings journal now) (c.least-4.ensures.from settings journal now)
