use Rattle.std.proofs.Common.{◌∷◌, sym, subst, ◌∙◌}
use Rattle.rm_model.specs.Journal.{samples}
use Rattle.rm_alarm.specs.Watched.{number_read}
use Rattle.rm_alarm.specs.Standing.{Stands as AlarmsStand}
use Rattle.rm_alarm.specs.declared.alarms.Alarms.{Alarms}
use Rattle.rm_event.specs.Standing.{HasRows}
use Rattle.rm_event.specs.declared.events.Events.{Events}
use Rattle.rm_agent.proofs.NotificationLemmas.{not_sent, not_asked, some_community, community_is, valid, made}
use Rattle.rm_agent.proofs.notification.notification.Goals as goal

pub returns-then-not-is_trap : goal.returns-then-not-is_trap
returns-then-not-is_trap c settings journal number is numbered =
    not_sent settings journal c.args.moment c.args.alarm c.args.groups.now c.args.taken.now is number (sym c.is_trap.ensures ∙ c.if-not-is_trap.true)

pub returns-in_err-trap : goal.returns-in_err-trap
returns-in_err-trap c settings journal number is numbered =
    c.from_residual.ensures
    ∙ not_asked settings journal c.args.moment c.args.alarm c.args.groups.now c.args.taken.now is number (sym c.trap_of.ensures ∙ c.in_err-trap.was)

pub returns-in_err-community : goal.returns-in_err-community
returns-in_err-community c settings journal number is numbered =
    let after = samples c.args.moment c.args.alarm (number_read settings journal c.args.moment c.args.alarm) ∷ journal in
    let trapped = sym c.is_trap.ensures ∙ c.if-not-is_trap.false in
    let rows : HasRows c.events.result.now after = subst (λ (e : Events). HasRows e after) (sym c.events.ensures) is.stands.second.first.rows in
    absurd (some_community settings journal c.args.moment c.args.alarm c.args.groups.now c.args.taken.now is trapped (c.in_err-community.ensures.value after rows))

pub returns-in_err-row : goal.returns-in_err-row
returns-in_err-row c settings journal number is numbered =
    let after = samples c.args.moment c.args.alarm (number_read settings journal c.args.moment c.args.alarm) ∷ journal in
    let trapped = sym c.is_trap.ensures ∙ c.if-not-is_trap.false in
    let trap = c.in_ok-trap.trap in
    let crossed = sym c.trap_of.ensures ∙ c.in_ok-trap.was in
    let stand : AlarmsStand c.alarms.result.now settings after = subst (λ (a : Alarms). AlarmsStand a settings after) (sym c.alarms.ensures) is.stands.second.second.second.stand in
    absurd (c.in_err-row.ensures.shown settings after stand (valid settings journal c.args.moment c.args.alarm c.args.groups.now c.args.taken.now is trapped number trap crossed))

pub returns : goal.returns
returns c settings journal number is numbered =
    let after = samples c.args.moment c.args.alarm (number_read settings journal c.args.moment c.args.alarm) ∷ journal in
    let trapped = sym c.is_trap.ensures ∙ c.if-not-is_trap.false in
    let trap = c.in_ok-trap.trap in
    let crossed = sym c.trap_of.ensures ∙ c.in_ok-trap.was in
    let rows : HasRows c.events.result.now after = subst (λ (e : Events). HasRows e after) (sym c.events.ensures) is.stands.second.first.rows in
    let stand : AlarmsStand c.alarms.result.now settings after = subst (λ (a : Alarms). AlarmsStand a settings after) (sym c.alarms.ensures) is.stands.second.second.second.stand in
    let community = community_is settings journal c.args.moment c.args.alarm c.args.groups.now c.args.taken.now is trapped c.in_ok-community.community.now (c.in_ok-community.ensures.value after rows) in
    let valid = valid settings journal c.args.moment c.args.alarm c.args.groups.now c.args.taken.now is trapped number trap crossed in
    let shown = c.in_ok-row.ensures.shown settings after stand valid in
    let told = c.of-told.ensures.told settings after shown in
    made settings journal c.args.moment c.args.alarm c.args.groups.now c.args.taken.now is trapped number trap crossed c.in_ok-row.row.now shown c.in_ok-community.community.now c.args.id c.of-told.result c.draft_of.result
    community numbered told c.draft_of.ensures
