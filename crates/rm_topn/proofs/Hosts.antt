-- What the group of the hosts lends.
use Rattle.std.proofs.Common.{ℕ, Option}
use Rattle.rm_model.specs.Counting.{Counting}
use Rattle.rm_model.specs.Journal.{Journal}
use Rattle.rm_keyed.specs.SourceControl.{source_rows}
use Rattle.rm_collect.specs.Rows.{GoesOnOrSawNone, IsKept}
use Rattle.rm_sourced.specs.Collection.{source_collection}
use Rattle.rm_hosts.specs.Collection.{host_collection}
use Rattle.rm_hosts.specs.Control.{host_control}
use Rattle.rm_hosts.specs.ControlColumns.{control_rows}
use Rattle.rm_hosts.specs.Tables.{HostTable, IsTable}
use Rattle.rm_topn.specs.Kept.{DoHostsGoOn}

pub kept_of : (settings : Counting) (journal : Journal) (row : ℕ) (o : Option HostTable) → IsKept control_rows.table host_collection.is_of settings journal row o → IsKept host_control IsTable settings journal row o
unfolding source_collection source_rows
kept_of settings journal row o is = is

pub go_on : (earlier later : Journal) → ((row : ℕ) → GoesOnOrSawNone control_rows.table row earlier later) → DoHostsGoOn earlier later
unfolding source_rows
go_on earlier later going = going
