use Rattle.std.proofs.Common.{◌∙◌}
use Rattle.rm_filter.proofs.ChannelCells.{same_cells}
use Rattle.rm_filter.proofs.channel_table.ChannelTableGroup.cell.Goals as goal

pub returns-clause-value : goal.returns-clause-value
returns-clause-value c settings journal stands later askable =
    c.shown_at.ensures.value ∙ same_cells c.args.self.now.rows c.shown_at.ensures.rows settings journal stands.rows stands.present c.args.name.now
