use Rattle.rm_collectors.proofs.collectors.Collectors.end_by.Goals as goal

pub returns-clause-stands : goal.returns-clause-stands
returns-clause-stands c settings journal stands = record {
  history = stands.history;
  matrix = stands.matrix;
  hosts = stands.hosts;
  reports = c.end_by.ensures.stands settings journal stands.hosts stands.reports;
}
