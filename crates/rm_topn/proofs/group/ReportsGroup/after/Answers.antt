use Rattle.rm_topn.proofs.SameCells.{next_cell}
use Rattle.rm_topn.proofs.group.ReportsGroup.after.Goals as goal

pub returns-clause-next : goal.returns-clause-next
returns-clause-next c settings journal stands later askable =
    next_cell c.args.self.now.rows c.shown_after.ensures.rows c.args.self.now.courses settings journal stands.held.rows stands.courses c.args.now askable c.args.name.now _ _ c.shown_after.ensures.next
