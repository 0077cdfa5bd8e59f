use Rattle.rm_event.proofs.acts.EventsSteps.take.Goals as goal

pub returns-clause-under_way : goal.returns-clause-under_way
returns-clause-under_way c settings act earlier some at under =
    (under.0, c.fire.ensures.under_way settings act earlier some c.args.firing.now.channel under.0 at under.1)
