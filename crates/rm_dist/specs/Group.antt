-- The group of the distribution, as a caller sees it.
use Rattle.std.specs.Prelude.{◌≡◌, ℕ, List, [], ◌∷◌, Option, Some}
use Rattle.rm_val.specs.Val.{Val}
use Rattle.rm_val.specs.declared.error.ErrorStatus.{ErrorStatus}
use Rattle.rm_model.specs.Counting.{Counting}
use Rattle.rm_model.specs.Journal.{Journal}
use Rattle.rm_model.specs.ControlRows.{no_rows}
use Rattle.rm_model.specs.Judgement.{Bindings}
use Rattle.rm_group.specs.Listed.{ListedTable, alone_beside}
use Rattle.rm_status.specs.declared.row.Row.{Row}
use Rattle.rm_status.specs.Fine as rows
use Rattle.rm_status.specs.Rows.{row_in}
use Rattle.rm_status.specs.RowsAfter.{AreRowsAfter}
use Rattle.rm_dist.specs.declared.distribution.Distribution.{Distribution}
use Rattle.rm_dist.specs.declared.row.DistributionRow.{DistributionRow}
use Rattle.rm_dist.specs.Columns.{control_columns, stats_columns}
use Rattle.rm_dist.specs.Control.{control_entry, dist_control}
use Rattle.rm_dist.specs.ControlColumns.{set_to, control_rows}
use Rattle.rm_dist.specs.DistStats.{stats_entry}
use Rattle.rm_dist.specs.Standing.{IsTallied, IsTalliedBy, unsifted}

-- what each row has counted is what a journal gives
abbrev pub AreTallied : List (Row DistributionRow) → Counting → Journal → Type 0
AreTallied rows settings journal = (i : ℕ) (row : Row DistributionRow) → row_in rows i ≡ Some row → IsTallied settings journal i row.columns.tally

-- The group stands for a journal: its rows are those after the journal, and have counted what the journal gives.
pub record Stands (distribution : Distribution) (settings : Counting) (journal : Journal) : Type 0 where
  pub rows : AreRowsAfter dist_control no_rows set_to distribution.rows journal
  pub tallies : AreTallied distribution.rows settings journal

-- The group has begun the Set that is the last act of a journal: what isn't active any more by it is still counted.
pub record HasBegun (distribution : Distribution) (settings : Counting) (journal : Journal) : Type 0 where
  pub rows : AreRowsAfter dist_control no_rows set_to distribution.rows journal
  pub tallies : (i : ℕ) (row : Row DistributionRow) → row_in distribution.rows i ≡ Some row → IsTalliedBy (unsifted settings i journal) journal i row.columns.tally

-- both passes find nothing wrong with a Set, by the rows that are kept
abbrev pub AreFine : Distribution → Bindings → Type 0
AreFine distribution = rows.AreFine control_rows distribution.rows

-- the tables, as the group lists them
abbrev pub stats_listed : ListedTable
stats_listed = record { entry = stats_entry; columns = stats_columns }

abbrev pub dist_tables : List ListedTable
dist_tables = record { entry = control_entry; columns = control_columns } ∷ stats_listed ∷ []

-- what is wrong with a binding alone: the columns of protocolDistStats are read only
abbrev pub dist_alone : List ℕ → Val → Option ErrorStatus
dist_alone = alone_beside dist_control stats_listed
