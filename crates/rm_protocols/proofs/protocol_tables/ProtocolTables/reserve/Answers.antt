use Rattle.rm_protocols.proofs.protocol_tables.ProtocolTables.reserve.Goals as goal

pub returns-in_err-reserve-clause-stands : goal.returns-in_err-reserve-clause-stands
returns-in_err-reserve-clause-stands c settings journal stands = record {
  directory = stands.directory;
  distribution = stands.distribution;
  hosts = c.reserve.ensures.stands settings journal stands.hosts;
  pairs = stands.pairs;
}

pub returns-clause-stands : goal.returns-clause-stands
returns-clause-stands c settings journal stands = record {
  directory = stands.directory;
  distribution = stands.distribution;
  hosts = c.reserve.ensures.stands settings journal stands.hosts;
  pairs = c.reserve-2.ensures.stands settings journal stands.pairs;
}
