use Rattle.std.proofs.Common.{ap, ◌∙◌}
use Rattle.std.specs.Option.{option_or}
use Rattle.rm_dist.specs.DistStats.{dist_cells}
use Rattle.rm_hl_hosts.specs.Collection.{host_collection}
use Rattle.rm_hl_matrices.specs.Collection.{pair_collection}
use Rattle.rm_protocols.specs.Group.{protocol_cells}
use Rattle.rm_protocols.proofs.group.ProtocolTablesGroup.cell.Goals as goal

pub returns-clause-value : goal.returns-clause-value
unfolding protocol_cells
returns-clause-value c settings journal stands later askable =
    let distribution = dist_cells settings journal c.args.name.now in
    let hosts = host_collection.cells settings journal c.args.now c.args.name.now in
    let pairs = pair_collection.cells settings journal c.args.now c.args.name.now in
    c.cell_in.ensures.value settings journal stands.pairs later tt
    ∙ ap (λ found. option_or found pairs) (c.cell_in-with_hosts.ensures.value settings journal stands.hosts later tt)
    ∙ ap (λ found. option_or (option_or found hosts) pairs) (c.cell_in-protocols.ensures.value settings journal stands.distribution later tt)
    ∙ ap (λ found. option_or (option_or (option_or found distribution) hosts) pairs) (c.cell-directory.ensures.value settings journal stands.directory later tt)
