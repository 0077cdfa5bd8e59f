use Rattle.std.proofs.Common.{◌≡◌, [], ◌∷◌, None, refl, sym, ap, subst, ◌∙◌, arith}
use Rattle.rm_acts.specs.declared.firing.Firing.{Firing}
use Rattle.std.specs.Prelude.{is_some}
use Rattle.rm_model.specs.Journal.{Act, samples}
use Rattle.rm_acts.specs.Events.{event_asked}
use Rattle.rm_acts.specs.Fired.{by_sample}
use Rattle.rm_acts.specs.declared.sampled.Sampled.{Sampled}
use Rattle.rm_collectors.specs.Group.{left_of as reports_left}
use Rattle.rm_collectors.specs.declared.collectors.Collectors.{Collectors}
use Rattle.rm_alarm.specs.Left.{samples_left}
use Rattle.rm_alarm.specs.Watched.{number_read}
use Rattle.rm_alarm.specs.Standing.{Stands as AlarmsStand}
use Rattle.rm_alarm.specs.declared.alarms.Alarms.{Alarms}
use Rattle.rm_event.specs.Standing.{HasRows}
use Rattle.rm_event.specs.declared.events.Events.{Events}
use Rattle.rm_event.specs.EventTable.{event_state, type_of}
use Rattle.rm_agent.specs.Notifications.{trap_of}
use Rattle.rm_agent.specs.Firings.{firings_by}
use Rattle.rm_acts.proofs.DueLaws.{valid_if_due}
use Rattle.rm_agent.specs.Groups.{AreUnderWay}
use Rattle.rm_agent.proofs.Askable.{still_askable}
use Rattle.rm_agent.proofs.Ended.{ended as act_ended}
use Rattle.rm_agent.proofs.FiringLemmas.{fires_so}
use Rattle.rm_agent.proofs.SampleLemmas.{valid_after, same_event}
use Rattle.rm_agent.proofs.sampling.take.Goals as goal

pub returns-clause-taken : goal.returns-clause-taken
returns-clause-taken c settings journal stands later due =
    let index = c.args.index in
    let moment = c.args.moment in
    let reading = number_read settings journal moment index in
    let act : Act = samples moment index reading in
    let ended = c.end_by.ensures.stands settings journal stands in
    let comes = c.sample-comes.ensures.result settings journal ended later c.end_by.ensures.askable in
    let under = c.sample-comes.ensures.under_way settings journal ended later c.end_by.ensures.askable in
    let stand : AlarmsStand c.alarms.result.now settings (act ∷ journal) = subst (λ (a : Alarms). AlarmsStand a settings (act ∷ journal)) (sym c.alarms.ensures) under.1.second.stand in
    let rows : HasRows c.events.result.now journal = subst (λ (e : Events). HasRows e journal) (sym (c.events.ensures ∙ c.sample-comes.ensures.events ∙ c.end_by.ensures.events)) stands.second.first.rows in
    let event : c.event_asked-event.result ≡ event_asked journal index c.sample-comes.result =
    c.event_asked-event.ensures settings (act ∷ journal) stand
    (λ crossing. valid_after settings journal moment index reading (valid_if_due journal index moment due) (ap (λ (s : Sampled). is_some (trap_of s)) (sym comes) ∙ crossing))
    ∙ same_event journal moment index reading c.sample-comes.result in
    let becomes = c.becomes-fired.ensures journal rows in
    let firing : Firing = record { event = c.event_asked-event.result; channel = None } in
    let fires : firings_by firing c.becomes-fired.result ≡ by_sample journal (event_asked journal index c.sample-comes.result) =
    ap (firings_by firing) becomes
    ∙ fires_so (event_state journal (c.event_asked-event.result ∷ [])) (type_of journal c.event_asked-event.result) firing
    ∙ ap (by_sample journal) event in
    let all = fires ∙ ap (λ (s : Sampled). by_sample journal (event_asked journal index s)) comes in
    record {
      due = due;
      stands = act_ended c.fire_by.new.groups settings act journal
          (subst (AreUnderWay c.fire_by.new.groups settings act journal) all (c.fire_by.ensures.under_way settings act journal [] refl under));
      comes = comes;
      event = event;
      fired = becomes;
    }

pub returns-clause-fewer : goal.returns-clause-fewer
returns-clause-fewer c latest within =
    let less = c.sample-comes.ensures.fewer latest within in
    let same = ap (λ (a : Alarms). samples_left a latest) c.fire_by.ensures.alarms in
    let reports = ap (λ (k : Collectors). reports_left k latest) c.fire_by.ensures.collectors in
    let left = c.end_by.ensures.left latest in
    omega arith

pub returns-clause-askable : goal.returns-clause-askable
returns-clause-askable c =
    still_askable c.end_by.new.groups c.fire_by.new.groups c.args.moment (c.fire_by.ensures.collectors ∙ c.sample-comes.ensures.collectors) c.end_by.ensures.askable

pub returns-clause-stocked : goal.returns-clause-stocked
returns-clause-stocked c stocked = c.fire_by.ensures.stocked (c.sample-comes.ensures.stocked (c.end_by.ensures.stocked stocked))
