-- That what is known of the columns of a row is known in one way only.
use Rattle.std.proofs.Props.{props}
use Rattle.rm_history.specs.declared.control_columns.ControlColumns.{ControlColumns}
use Rattle.rm_history.specs.ControlColumns.{AreInRange}

pub in_range_prop : (columns : ControlColumns) → IsProp (AreInRange columns)
in_range_prop columns = hlevel props
