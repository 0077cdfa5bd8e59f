-- What is kept of a row of protocolDistControl.
use Rattle.std.specs.Prelude.{ℕ, [], nat_eq, if◌then◌else◌, Option, None, refl}
use Rattle.rm_val.specs.Val.{Val}
use Rattle.rm_model.specs.ControlTable.{source_column, owner_column}
use Rattle.rm_columns.specs.Kinds.{sources, texts}
use Rattle.rm_columns.specs.RowForm.{RowForm}
use Rattle.rm_columns.proofs.ColumnLaws.{no_columns, one_more}
use Rattle.rm_columns.proofs.RowForms.{row_form}
use Rattle.rm_dist.specs.declared.row.DistributionRow.{DistributionRow}
use Rattle.rm_dist.specs.Columns.{control_columns}
use Rattle.rm_dist.specs.Control.{dist_control}

-- what the columns were set to
abbrev pub set_to : DistributionRow → ℕ → Option Val
set_to row n = if nat_eq 2 n then sources.shown row.source else if nat_eq 5 n then (texts 127).shown row.owner else None

-- a row with a column set
abbrev pub with_column : DistributionRow → ℕ → Val → DistributionRow
with_column row n value = record {
  source = if nat_eq 2 n then sources.taken value else row.source;
  owner = if nat_eq 5 n then (texts 127).taken value else row.owner;
  tally = row.tally;
}

-- a new row
abbrev pub blank_row : DistributionRow
blank_row = record { source = 1; owner = record { items = [] }; tally = None }

-- the form of the rows
abbrev pub control_rows : RowForm DistributionRow
control_rows =
    row_form dist_control control_columns set_to blank_row with_column (λ n. refl)
    (λ row n value.
    one_more sources (source_column 2) refl _ n value row.source _ _
    (one_more (texts 127) (owner_column 5) refl [] n value row.owner _ _ (no_columns n value)))
    refl refl refl refl refl
