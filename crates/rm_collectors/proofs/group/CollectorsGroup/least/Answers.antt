use Rattle.rm_history.specs.Collection.{history_collection}
use Rattle.rm_matrix.specs.Collection.{matrix_collection}
use Rattle.rm_hosts.specs.Collection.{host_collection}
use Rattle.rm_topn.specs.HostTop.{top_cells}
use Rattle.rm_collectors.specs.Group.{collected_cells}
use Rattle.rm_collectors.proofs.group.CollectorsGroup.least.Goals as goal

pub returns-clause-from : goal.returns-clause-from
unfolding collected_cells
returns-clause-from c settings journal now =
    c.least_of.ensures.from (history_collection.cells settings journal now) (matrix_collection.cells settings journal now)
    (host_collection.cells settings journal now) (top_cells settings journal now)
    (c.least.ensures.from settings journal now) (c.least-2.ensures.from settings journal now)
    (c.least-3.ensures.from settings journal now) (c.least-4.ensures.from settings journal now)
