-- What is kept of the columns of a row of hostTopNControl.
use Rattle.std.specs.Prelude.{ℕ, pos, [], nat_eq, if◌then◌else◌, Option, None, refl}
use Rattle.rm_val.specs.Val.{Val}
use Rattle.rm_model.specs.ControlTable.{owner_column}
use Rattle.rm_columns.specs.Kinds.{needed_numbers, numbers, texts}
use Rattle.rm_columns.specs.RowForm.{RowForm}
use Rattle.rm_columns.proofs.ColumnLaws.{no_columns, one_more}
use Rattle.rm_columns.proofs.RowForms.{row_form}
use Rattle.rm_report.specs.RateBase.{rate_bases}
use Rattle.rm_report.specs.declared.rate_base.RateBase.TheVariants.{InPkts}
use Rattle.rm_topn.specs.declared.control_columns.ControlColumns.{ControlColumns}
use Rattle.rm_topn.specs.Columns.{control_columns}
use Rattle.rm_topn.specs.Control.{top_control, host_column, base_column, time_column, size_column}

-- what each column was set to; those that weren't set count as set to their default, but for the host row, which a row needs
abbrev pub set_to : ControlColumns → ℕ → Option Val
set_to columns n =
    if nat_eq 2 n then needed_numbers.shown columns.host_index
    else if nat_eq 3 n then rate_bases.shown columns.base
    else if nat_eq 4 n then numbers.shown columns.seconds
    else if nat_eq 6 n then numbers.shown columns.requested
    else if nat_eq 9 n then (texts 127).shown columns.owner
    else None

-- the columns of a new row
abbrev pub blank_columns : ControlColumns
blank_columns = record { host_index = None; base = InPkts; seconds = pos 0; requested = pos 10; owner = record { items = [] } }

-- columns with one of them set
abbrev pub with_column : ControlColumns → ℕ → Val → ControlColumns
with_column columns n value = record {
  host_index = if nat_eq 2 n then needed_numbers.taken value else columns.host_index;
  base = if nat_eq 3 n then rate_bases.taken value else columns.base;
  seconds = if nat_eq 4 n then numbers.taken value else columns.seconds;
  requested = if nat_eq 6 n then numbers.taken value else columns.requested;
  owner = if nat_eq 9 n then (texts 127).taken value else columns.owner;
}

-- the form of the rows
abbrev pub control_rows : RowForm ControlColumns
control_rows =
    row_form top_control control_columns set_to blank_columns with_column (λ n. refl)
    (λ columns n value.
    one_more needed_numbers host_column refl _ n value columns.host_index _ _
    (one_more rate_bases base_column refl _ n value columns.base _ _
    (one_more numbers time_column refl _ n value columns.seconds _ _
    (one_more numbers size_column refl _ n value columns.requested _ _
    (one_more (texts 127) (owner_column 9) refl [] n value columns.owner _ _ (no_columns n value))))))
    refl refl refl refl refl
