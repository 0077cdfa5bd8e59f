use Rattle.std.proofs.Common.{ap, ◌∙◌}
use Rattle.std.specs.Option.{option_or}
use Rattle.rm_matrix.specs.Collection.{matrix_collection}
use Rattle.rm_hosts.specs.Collection.{host_collection}
use Rattle.rm_topn.specs.HostTop.{top_cells}
use Rattle.rm_collectors.specs.Group.{collected_cells}
use Rattle.rm_collectors.proofs.group.CollectorsGroup.cell.Goals as goal

pub returns-clause-value : goal.returns-clause-value
unfolding collected_cells
returns-clause-value c settings journal stands later askable =
    let matrix = matrix_collection.cells settings journal c.args.now c.args.name.now in
    let hosts = host_collection.cells settings journal c.args.now c.args.name.now in
    let reports = top_cells settings journal c.args.now c.args.name.now in
    c.cell_in.ensures.value settings journal stands.reports later askable
    ∙ ap (λ found. option_or found reports) (c.cell_in-of_three.ensures.value settings journal stands.hosts later tt)
    ∙ ap (λ found. option_or (option_or found hosts) reports) (c.cell_in-of_two.ensures.value settings journal stands.matrix later tt)
    ∙ ap (λ found. option_or (option_or (option_or found matrix) hosts) reports) (c.cell-history.ensures.value settings journal stands.history later tt)
