use Rattle.std.proofs.Common.{refl}
use Rattle.rm_model.specs.Cells.{cells_of}
use Rattle.rm_group.proofs.Leasts.{table_from, from_below, both_from}
use Rattle.rm_event.specs.Tables.{events_table, log_table}
use Rattle.rm_event.proofs.group.EventsGroup.least.Goals as goal

pub returns-clause-from : goal.returns-clause-from
returns-clause-from c settings journal now =
    let events = events_table settings journal in
    let entries = log_table settings journal in
    both_from (cells_of events) (cells_of entries) events.entry (table_from events) (from_below events.entry entries.entry (cells_of entries) refl (table_from entries))
