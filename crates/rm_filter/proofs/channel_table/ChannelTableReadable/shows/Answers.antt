use Rattle.rm_filter.proofs.ChannelCells.{same_cells}
use Rattle.rm_filter.proofs.channel_table.ChannelTableReadable.shows.Goals as goal

pub returns : goal.returns
returns c settings journal stands later askable name = same_cells c.args.self.now.rows c.len.ensures.rows settings journal stands.rows stands.present name
