use Rattle.rm_ether.proofs.Cells.{same_cells}
use Rattle.rm_ether.proofs.ether.EtherReadable.shows.Goals as goal

pub returns : goal.returns
returns c settings journal stands later askable name =
    same_cells c.args.self.now.rows c.len.ensures.rows settings journal stands.rows stands.counters name
