use Rattle.rm_collectors.proofs.collectors.Collectors.reserve.Goals as goal

pub returns-in_err-reserve-clause-stands : goal.returns-in_err-reserve-clause-stands
returns-in_err-reserve-clause-stands c settings journal stands = record {
  history = c.reserve.ensures.stands settings journal stands.history;
  matrix = stands.matrix;
  hosts = stands.hosts;
  reports = stands.reports;
}

pub returns-in_err-reserve-2-clause-stands : goal.returns-in_err-reserve-2-clause-stands
returns-in_err-reserve-2-clause-stands c settings journal stands = record {
  history = c.reserve.ensures.stands settings journal stands.history;
  matrix = c.reserve-2.ensures.stands settings journal stands.matrix;
  hosts = stands.hosts;
  reports = stands.reports;
}

pub returns-in_err-reserve-3-clause-stands : goal.returns-in_err-reserve-3-clause-stands
returns-in_err-reserve-3-clause-stands c settings journal stands = record {
  history = c.reserve.ensures.stands settings journal stands.history;
  matrix = c.reserve-2.ensures.stands settings journal stands.matrix;
  hosts = c.reserve-3.ensures.stands settings journal stands.hosts;
  reports = stands.reports;
}

pub returns-clause-stands : goal.returns-clause-stands
returns-clause-stands c settings journal stands = record {
  history = c.reserve.ensures.stands settings journal stands.history;
  matrix = c.reserve-2.ensures.stands settings journal stands.matrix;
  hosts = c.reserve-3.ensures.stands settings journal stands.hosts;
  reports = c.reserve-4.ensures.stands settings journal stands.reports;
}
