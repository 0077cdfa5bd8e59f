-- The laws of what the rows of hostControl collect.
use Rattle.std.proofs.Common.{refl, rules}
use Rattle.rm_collect.specs.Collection.{IsLawful}
use Rattle.rm_sourced.specs.Laws.{IsLawful as AreLawful}
use Rattle.rm_sourced.specs.Lawful.{source_lawful}
use Rattle.rm_hosts.specs.Control.{named_entry}
use Rattle.rm_hosts.specs.ControlColumns.{control_rows}
use Rattle.rm_hosts.specs.Tables.{host_sourcing}
use Rattle.rm_hosts.specs.Shown.{by_address, by_rank}
use Rattle.rm_hosts.specs.Collection.{host_collection}
use Rattle.rm_hosts.specs.Indexed.{exact}
use Rattle.rm_hosts.specs.SameCells.{value_is, address_is, rank_is}

pub host_laws : AreLawful named_entry host_sourcing by_address by_rank
host_laws = record {
  exact = exact;
  control_fits = Prim.search rules;
  first_below = refl;
  second_below = refl;
  is_first = record { always = λ now. refl; found = address_is; same = value_is };
  is_second = record { always = λ now. refl; found = rank_is; same = value_is };
  recurring = λ settings one other journal alike now name. refl;
}

pub host_lawful : IsLawful control_rows host_collection
host_lawful = source_lawful named_entry host_sourcing by_address by_rank host_laws (λ room. room.hosts)
