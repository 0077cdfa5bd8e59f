use Rattle.rm_topn.proofs.SameCells.{same_cells}
use Rattle.rm_topn.proofs.group.ReportsReadable.shows.Goals as goal

pub returns : goal.returns
returns c settings journal stands later askable name = same_cells c.args.self.now.rows c.len.ensures.rows c.args.self.now.courses settings journal stands.held.rows stands.courses c.args._now askable name
