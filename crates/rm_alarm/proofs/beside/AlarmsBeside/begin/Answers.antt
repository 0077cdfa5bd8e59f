use Rattle.rm_alarm.proofs.beside.AlarmsBeside.begin.Goals as goal

pub returns-clause-begun : goal.returns-clause-begun
returns-clause-begun g c settings journal values tied first second later first_askable askable gives = record {
  stand = c.assign.ensures.stands settings journal values second.stand gives;
  based = c.assign.ensures.based settings journal values second.stand second.based (c.requires.ready.read settings journal tied first later first_askable) gives;
}
