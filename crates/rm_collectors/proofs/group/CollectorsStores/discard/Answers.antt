use Rattle.rm_collectors.proofs.group.CollectorsStores.discard.Goals as goal

pub returns-clause-stands : goal.returns-clause-stands
returns-clause-stands c settings journal stands = record {
  history = c.discard.ensures.stands settings journal stands.history;
  matrix = c.discard-2.ensures.stands settings journal stands.matrix;
  hosts = c.discard-3.ensures.stands settings journal stands.hosts;
  reports = c.discard-4.ensures.stands settings journal stands.reports;
}
