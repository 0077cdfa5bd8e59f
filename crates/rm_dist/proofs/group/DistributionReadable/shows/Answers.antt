use Rattle.rm_dist.proofs.SameCells.{same_cells}
use Rattle.rm_dist.proofs.group.DistributionReadable.shows.Goals as goal

pub returns : goal.returns
returns c settings journal stands later asked = same_cells c.args.self.now.rows c.len.ensures.rows settings journal stands.rows stands.tallies
