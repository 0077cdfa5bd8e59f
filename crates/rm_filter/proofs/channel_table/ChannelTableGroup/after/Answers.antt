use Rattle.rm_filter.proofs.ChannelCells.{next_cell}
use Rattle.rm_filter.proofs.channel_table.ChannelTableGroup.after.Goals as goal

pub returns-clause-next : goal.returns-clause-next
returns-clause-next c settings journal stands later askable =
    next_cell c.args.self.now.rows c.shown_after.ensures.rows settings journal stands.rows stands.present c.args.name.now _ _ c.shown_after.ensures.next
