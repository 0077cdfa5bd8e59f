use Rattle.rm_collectors.proofs.group.CollectorsUnfired.take_frame.Goals as goal

pub returns-clause-stands : goal.returns-clause-stands
returns-clause-stands c settings earlier frame is stands later asked = record {
  history = c.take_frame.ensures.stands settings earlier frame is stands.history later tt;
  matrix = c.take_frame-2.ensures.stands settings earlier frame is stands.matrix later tt;
  hosts = c.take_frame-3.ensures.stands settings earlier frame is stands.hosts later tt;
  reports = c.take_frame-4.ensures.stands settings earlier frame is stands.reports later asked;
}
