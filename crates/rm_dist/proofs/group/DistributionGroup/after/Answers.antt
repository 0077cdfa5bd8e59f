use Rattle.rm_dist.proofs.SameCells.{next_cell}
use Rattle.rm_dist.proofs.group.DistributionGroup.after.Goals as goal

pub returns-clause-next : goal.returns-clause-next
returns-clause-next c settings journal stands later askable =
    next_cell c.args.self.now.rows c.len.ensures.rows settings journal stands.rows stands.tallies c.args.name.now _ _ c.next_of_both.ensures.next
