-- What is always so of the logs that are kept.
use Rattle.std.specs.Prelude.{List}
use Rattle.std.proofs.Props.{props}
use Rattle.rm_status.specs.declared.row.Row.{Row}
use Rattle.rm_pool.specs.declared.slot.Slot.{Slot}
use Rattle.rm_pool.specs.Pools.{IsOfValid}
use Rattle.rm_event.specs.declared.event_row.EventRow.{EventRow}
use Rattle.rm_event.specs.declared.log.Log.{Log}

pub of_valid_prop : (logs : List (Slot Log)) (rows : List (Row EventRow)) → IsProp (IsOfValid logs rows)
of_valid_prop logs rows = hlevel props
