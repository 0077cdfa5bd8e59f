use Rattle.std.proofs.Common.{refl}
use Rattle.rm_model.specs.Cells.{cells_of}
use Rattle.rm_group.proofs.Leasts.{table_from, from_below, both_from}
use Rattle.rm_topn.specs.HostTop.{control_table, report_table}
use Rattle.rm_topn.proofs.group.ReportsGroup.least.Goals as goal

pub returns-clause-from : goal.returns-clause-from
returns-clause-from c settings journal now =
    let control = control_table journal now in
    let hosts = report_table settings journal now in
    both_from (cells_of control) (cells_of hosts) control.entry (table_from control) (from_below control.entry hosts.entry (cells_of hosts) refl (table_from hosts))
