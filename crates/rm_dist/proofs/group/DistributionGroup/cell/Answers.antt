use Rattle.std.proofs.Common.{◌∙◌}
use Rattle.rm_dist.proofs.SameCells.{same_cells}
use Rattle.rm_dist.proofs.group.DistributionGroup.cell.Goals as goal

pub returns-clause-value : goal.returns-clause-value
returns-clause-value c settings journal stands later askable =
    c.shown_at.ensures.value ∙ same_cells c.args.self.now.rows c.len.ensures.rows settings journal stands.rows stands.tallies c.args.name.now
