use Rattle.rm_alarm.proofs.group.AlarmsStores.prepare.Goals as goal

pub returns-clause-stands : goal.returns-clause-stands
returns-clause-stands g c settings journal is = record {
  stand = c.remember.ensures.stands settings journal is.stand;
  based = c.remember.ensures.based settings journal is.based;
}
