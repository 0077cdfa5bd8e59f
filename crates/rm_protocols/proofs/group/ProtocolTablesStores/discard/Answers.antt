use Rattle.rm_protocols.proofs.group.ProtocolTablesStores.discard.Goals as goal

pub returns-clause-stands : goal.returns-clause-stands
returns-clause-stands c settings journal stands = record {
  directory = stands.directory;
  distribution = stands.distribution;
  hosts = c.discard.ensures.stands settings journal stands.hosts;
  pairs = c.discard-2.ensures.stands settings journal stands.pairs;
}
