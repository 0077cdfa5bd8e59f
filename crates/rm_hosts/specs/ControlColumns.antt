-- What is kept of the columns of a row of hostControl.
use Rattle.rm_columns.specs.RowForm.{RowForm}
use Rattle.rm_keyed.specs.SourceControl.{source_rows}
use Rattle.rm_keyed.specs.declared.source_columns.SourceColumns.{SourceColumns}
use Rattle.rm_hosts.specs.declared.host_rows.HostRows.{HostRows}
use Rattle.rm_hosts.specs.Control.{named_entry}
pub use Rattle.rm_keyed.specs.SourceControl.{set_to}

abbrev pub ControlColumns : Type 0
ControlColumns = SourceColumns HostRows

-- the form of the rows
abbrev pub control_rows : RowForm ControlColumns
control_rows = source_rows named_entry
