use Rattle.std.proofs.Common.{◌∙◌}
use Rattle.rm_ether.proofs.Cells.{same_cells}
use Rattle.rm_ether.proofs.ether.EtherGroup.cell.Goals as goal

pub returns-clause-value : goal.returns-clause-value
returns-clause-value c settings journal stands later askable =
    c.cell.ensures.value ∙ same_cells c.args.self.now.rows c.cell.ensures.rows settings journal stands.rows stands.counters c.args.name.now
