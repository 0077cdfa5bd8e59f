use Rattle.std.proofs.Common.{◌≡◌, ◌++◌, [], ◌∷◌, List, Some, ap, sym, subst, ◌∙◌}
use Rattle.rm_acts.specs.declared.firing.Firing.{Firing}
use Rattle.rm_event.specs.EventTable.{event_state, type_of}
use Rattle.rm_event.specs.Standing.{HasRows}
use Rattle.rm_event.specs.declared.events.Events.{Events}
use Rattle.rm_agent.specs.Firings.{firings_by, firings_asked}
use Rattle.rm_agent.specs.Groups.{AreUnderWay}
use Rattle.rm_agent.proofs.FiringLemmas.{fires_so, asked_one, asked_none, none_added}
use Rattle.rm_agent.proofs.firing.fire_one.Goals as goal

pub returns-in-Some-clause-under_way : goal.returns-in-Some-clause-under_way
returns-in-Some-clause-under_way c settings act earlier some at under =
    let firing : Firing = record { event = c.in-Some.event; channel = Some c.args.accepted.now.channel } in
    let rows : HasRows c.events.result.now earlier = subst (λ (e : Events). HasRows e earlier) (sym c.events.ensures) under.0.1.rows in
    let becomes = c.becomes-fired.ensures earlier rows in
    let fires : firings_by firing c.becomes-fired.result ≡ firings_asked earlier (c.args.accepted.now ∷ []) =
    ap (firings_by firing) becomes ∙ fires_so (event_state earlier (c.in-Some.event ∷ [])) (type_of earlier c.in-Some.event) firing ∙ sym (asked_one earlier c.args.accepted.now c.in-Some.event c.in-Some.is) in
    subst (λ (more : List Firing). AreUnderWay c.fire_by.new.groups settings act earlier (some ++ more)) fires (c.fire_by.ensures.under_way settings act earlier some at under)

pub returns-in_default-clause-under_way : goal.returns-in_default-clause-under_way
returns-in_default-clause-under_way c settings act earlier some at under =
    let none = none_added some ∙ ap (λ (more : List Firing). some ++ more) (sym (asked_none earlier c.args.accepted.now c.in_default.is)) in
    subst (AreUnderWay c.args.groups.now settings act earlier) none under
