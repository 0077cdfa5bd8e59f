use Rattle.rm_sources.proofs.sources.Sources.take.Goals as goal

pub returns-clause-under_way : goal.returns-clause-under_way
returns-clause-under_way c settings act earlier some at under = record {
  ether = under.ether;
  collectors = under.collectors;
  protocols = under.protocols;
  channels = c.take.ensures.under_way settings act earlier some at under.channels;
}
