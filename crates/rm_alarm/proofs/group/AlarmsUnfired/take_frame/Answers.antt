use Rattle.rm_alarm.proofs.group.AlarmsUnfired.take_frame.Goals as goal

pub returns-clause-stands : goal.returns-clause-stands
returns-clause-stands c settings earlier frame is stands later asked = record {
  stand = c.frames_pass.ensures.stands c.args.self.now settings earlier frame stands.stand;
  based = c.frames_pass.ensures.based c.args.self.now settings earlier frame stands.stand stands.based;
}
