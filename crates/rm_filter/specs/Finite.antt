-- That the cells of filterTable and of channelTable are finitely many.
use Rattle.rm_model.specs.Counting.{Counting}
use Rattle.rm_model.specs.Journal.{Journal}
use Rattle.rm_model.specs.Cells.{cells_of}
use Rattle.rm_model.specs.ControlRows.{no_rows}
use Rattle.rm_model.specs.Finite.{AreFinite}
use Rattle.rm_model.specs.Indexes.{indexes_of}
use Rattle.rm_model.proofs.Finite.{table_finite}
use Rattle.rm_model.proofs.Rows.{row_listed}
use Rattle.std.specs.Prelude.{[]}
use Rattle.rm_acts.specs.Filters.{filter_table}
use Rattle.rm_acts.specs.Channels.{channel_table}
use Rattle.rm_acts.specs.Shown.{channels_shown}
use Rattle.rm_filter.specs.Tables.{filters_shown}

pub filters_finite : (journal : Journal) → AreFinite (cells_of (filters_shown journal))
filters_finite journal = table_finite (filters_shown journal) (indexes_of filter_table [] journal) (row_listed filter_table no_rows [] (λ index is. absurd (cc)) journal)

pub channels_finite : (settings : Counting) (journal : Journal) → AreFinite (cells_of (channels_shown settings journal))
channels_finite settings journal = table_finite (channels_shown settings journal) (indexes_of channel_table [] journal) (row_listed channel_table no_rows [] (λ index is. absurd (cc)) journal)
