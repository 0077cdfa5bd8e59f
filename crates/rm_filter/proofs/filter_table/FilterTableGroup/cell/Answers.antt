use Rattle.std.proofs.Common.{◌∙◌}
use Rattle.rm_filter.proofs.FilterCells.{same_cells}
use Rattle.rm_filter.proofs.filter_table.FilterTableGroup.cell.Goals as goal

pub returns-clause-value : goal.returns-clause-value
returns-clause-value c settings journal stands later askable =
    c.cell.ensures.value ∙ same_cells c.args.self.now.rows c.cell.ensures.rows journal stands c.args.name.now
