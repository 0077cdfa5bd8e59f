use Rattle.std.proofs.Common.{◌∙◌}
use Rattle.rm_topn.proofs.SameCells.{same_cells}
use Rattle.rm_topn.proofs.group.ReportsGroup.cell.Goals as goal

pub returns-clause-value : goal.returns-clause-value
returns-clause-value c settings journal stands later askable =
    c.shown_at.ensures.value ∙ same_cells c.args.self.now.rows c.shown_at.ensures.rows c.args.self.now.courses settings journal stands.held.rows stands.courses c.args.now askable c.args.name.now
