use Rattle.std.specs.Option.{option_or}
use Rattle.rm_model.specs.Cells.{Cells}
use Rattle.rm_dir.specs.Tables.{directory_cells}
use Rattle.rm_dist.specs.DistStats.{dist_cells}
use Rattle.rm_hl_hosts.specs.Collection.{host_collection}
use Rattle.rm_protocols.specs.Group.{protocol_cells}
use Rattle.rm_protocols.proofs.group.ProtocolTablesGroup.after.Goals as goal

pub returns-clause-next : goal.returns-clause-next
unfolding protocol_cells
returns-clause-next c settings journal stands later askable =
    let protocols : Cells = λ name. option_or (directory_cells journal name) (dist_cells settings journal name) in
    let with_hosts : Cells = λ name. option_or (protocols name) (host_collection.cells settings journal c.args.now name) in
    c.nearer_in.ensures.next with_hosts settings journal
    (c.nearer_in-with_hosts.ensures.next protocols settings journal
    (c.nearer_in-protocols.ensures.next (directory_cells journal) settings journal
    (c.after-directory.ensures.next settings journal stands.directory later tt) stands.distribution later tt) stands.hosts later tt) stands.pairs later tt
