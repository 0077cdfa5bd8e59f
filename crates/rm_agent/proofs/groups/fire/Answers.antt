use Rattle.rm_agent.proofs.groups.fire.Goals as goal

pub returns-clause-under_way : goal.returns-clause-under_way
returns-clause-under_way c settings act earlier some at under =
    let watched = under.1 in (
      c.take.ensures.under_way settings act earlier some at under.0,
      record { first = c.take-2.ensures.under_way settings act earlier some at watched.first; second = watched.second; tied = watched.tied },
    )
