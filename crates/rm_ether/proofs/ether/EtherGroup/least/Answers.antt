use Rattle.rm_group.proofs.Leasts.{table_from}
use Rattle.rm_ether.specs.EtherStats.{ether_table}
use Rattle.rm_ether.proofs.ether.EtherGroup.least.Goals as goal

pub returns-clause-from : goal.returns-clause-from
returns-clause-from c settings journal now = table_from (ether_table settings journal)
