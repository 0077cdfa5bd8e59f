use Rattle.rm_protocols.proofs.protocol_tables.ProtocolTables.sample_begins.Goals as goal

pub returns : goal.returns
returns c settings earlier alarm reading stands later = record {
  directory = c.sample_begins.ensures settings earlier alarm reading stands.directory later tt;
  distribution = c.sample_begins-2.ensures settings earlier alarm reading stands.distribution;
  hosts = c.sample_begins-3.ensures settings earlier alarm reading stands.hosts later;
  pairs = c.sample_begins-4.ensures settings earlier alarm reading stands.pairs later;
}
