use Rattle.std.proofs.Common.{sym, ◌∙◌, ap, [], ◌∷◌}
use Rattle.rm_model.specs.ControlRows.{is_valid}
use Rattle.rm_event.specs.EventTable.{event_state, type_of}
use Rattle.rm_event.specs.Standing.{fired_of}
use Rattle.rm_event.proofs.Fires.{valid_type_is, fires_as, doesnt_fire, logs_with, logs_without}
use Rattle.rm_event.proofs.events.Events.fire.Goals as goal

pub returns-in-Some-clause-under_way : goal.returns-in-Some-clause-under_way
returns-in-Some-clause-under_way c settings act earlier some by unset at under = record {
  rows = under.rows;
  logs = logs_with settings act earlier unset some c.args.index by c.args.self.now.logs c.fire_log.new.logs c.in-Some.event_type c.args.moment at
      (ap is_valid (sym (under.rows.alike.states c.args.index)) ∙ c.in-Some.ensures.valid.0)
      (valid_type_is c.args.self.now.rows earlier c.args.index c.in-Some.event_type under.rows c.in-Some.ensures.valid.0 c.in-Some.ensures.valid.1)
      c.fire_log.ensures.itself c.fire_log.ensures.others under.logs;
}

pub returns-in-Some-clause-result : goal.returns-in-Some-clause-result
returns-in-Some-clause-result c journal rows =
    c.fired.ensures
    ∙ fires_as (event_state journal (c.args.index ∷ [])) c.in-Some.event_type (ap is_valid (sym (rows.alike.states c.args.index)) ∙ c.in-Some.ensures.valid.0)
    ∙ ap (fired_of (event_state journal (c.args.index ∷ []))) (valid_type_is c.args.self.now.rows journal c.args.index c.in-Some.event_type rows c.in-Some.ensures.valid.0 c.in-Some.ensures.valid.1)

pub returns-in-None-clause-under_way : goal.returns-in-None-clause-under_way
returns-in-None-clause-under_way c settings act earlier some by unset at under = record {
  rows = under.rows;
  logs = logs_without settings act earlier unset some c.args.index by c.args.self.now.logs (ap is_valid (sym (under.rows.alike.states c.args.index)) ∙ c.in-None.ensures.idle) under.logs;
}

pub returns-in-None-clause-result : goal.returns-in-None-clause-result
returns-in-None-clause-result c journal rows =
    doesnt_fire (event_state journal (c.args.index ∷ [])) (type_of journal c.args.index) (ap is_valid (sym (rows.alike.states c.args.index)) ∙ c.in-None.ensures.idle)
