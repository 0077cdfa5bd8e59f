use Rattle.rm_alarm.proofs.group.AlarmsStores.discard.Goals as goal

pub returns-clause-stands : goal.returns-clause-stands
returns-clause-stands c settings journal is = record {
  stand = c.forget.ensures.stands settings journal is.stand;
  based = c.forget.ensures.based settings journal is.based;
}
