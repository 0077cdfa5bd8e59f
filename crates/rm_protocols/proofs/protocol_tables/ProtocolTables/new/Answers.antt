use Rattle.std.proofs.Common.{[]}
use Rattle.rm_hl_hosts.specs.Collection.{host_collection}
use Rattle.rm_hl_matrices.specs.Collection.{pair_collection}
use Rattle.rm_protocols.proofs.protocol_tables.ProtocolTables.new.Goals as goal

pub returns-clause-stands : goal.returns-clause-stands
unfolding host_collection pair_collection
returns-clause-stands c settings set = record {
  directory = c.new-directory.ensures;
  distribution = c.new.ensures.stands settings;
  hosts = c.new-hosts.ensures.stands settings (c.by-host_shared.ensures settings [] set c.new-directory.ensures);
  pairs = c.new-pairs.ensures.stands settings (c.by-pair_shared.ensures settings [] set c.new-directory.ensures);
}
