use Rattle.std.proofs.Common.{refl}
use Rattle.rm_model.specs.Cells.{cells_of}
use Rattle.rm_group.proofs.Leasts.{table_from, from_below, both_from}
use Rattle.rm_dist.specs.DistStats.{control_table, stats_table}
use Rattle.rm_dist.proofs.group.DistributionGroup.least.Goals as goal

pub returns-clause-from : goal.returns-clause-from
returns-clause-from c settings journal now =
    let control = control_table journal in
    let stats = stats_table settings journal in
    both_from (cells_of control) (cells_of stats) control.entry (table_from control) (from_below control.entry stats.entry (cells_of stats) refl (table_from stats))
