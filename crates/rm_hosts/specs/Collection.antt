-- What the valid rows of hostControl collect: each has hosts, which host and hostTime show.
use Rattle.rm_collect.specs.Collection.{Collection}
use Rattle.rm_sourced.specs.Collection.{source_collection}
use Rattle.rm_hosts.specs.declared.host_room.HostRoom.{HostRoom}
use Rattle.rm_hosts.specs.Control.{named_entry}
use Rattle.rm_hosts.specs.ControlColumns.{ControlColumns}
use Rattle.rm_hosts.specs.Shown.{by_address, by_rank}
use Rattle.rm_hosts.specs.Tables.{HostTable, host_sourcing}

abbrev pub host_collection : Collection ControlColumns HostTable HostRoom (Unit {0})
host_collection = source_collection named_entry host_sourcing by_address by_rank (λ room. room.hosts)
