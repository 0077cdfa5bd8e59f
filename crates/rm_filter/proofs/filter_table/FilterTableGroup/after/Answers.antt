use Rattle.rm_filter.proofs.FilterCells.{next_cell}
use Rattle.rm_filter.proofs.filter_table.FilterTableGroup.after.Goals as goal

pub returns-clause-next : goal.returns-clause-next
returns-clause-next c settings journal stands later askable =
    next_cell c.args.self.now.rows c.next_cell.ensures.rows journal stands c.args.name.now _ _ c.next_cell.ensures.next
