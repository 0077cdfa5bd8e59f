use Rattle.rm_alarm.proofs.Watching.{reads}
use Rattle.rm_alarm.proofs.beside.AlarmsBeside.prepare_beside.Goals as goal

pub returns-clause-stands : goal.returns-clause-stands
returns-clause-stands g c settings journal is = record {
  stand = c.remember.ensures.stands settings journal is.stand;
  based = c.remember.ensures.based settings journal is.based;
}

pub returns-clause-ready : goal.returns-clause-ready
returns-clause-ready g c = record {
  fine = c.remember.ensures.fine;
  read = λ settings journal readings stands later askable.
      c.remember.ensures.read settings journal
      (reads g.G.Readable.sampleable (g.G.Readable.shown c.args.first.now c.args.now) settings journal c.args.now (c.shows.ensures settings journal stands later askable) readings);
}
