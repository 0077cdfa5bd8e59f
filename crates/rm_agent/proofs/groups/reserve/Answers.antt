use Rattle.std.proofs.Common.{[]}
use Rattle.rm_agent.proofs.groups.reserve.Goals as goal

pub returns-in_err-reserve-clause-stands : goal.returns-in_err-reserve-clause-stands
returns-in_err-reserve-clause-stands c settings stands = record {
  first = stands.first;
  second = record { first = c.reserve.ensures.stands settings [] stands.second.first; second = stands.second.second; tied = stands.second.tied };
  tied = stands.tied;
}

pub returns-clause-stands : goal.returns-clause-stands
returns-clause-stands c settings stands =
    let watched = stands.second.second in record {
      first = stands.first;
      second = record {
        first = c.reserve.ensures.stands settings [] stands.second.first;
        second = record { first = c.reserve-2.ensures.stands settings [] watched.first; second = watched.second; tied = watched.tied };
        tied = stands.second.tied;
      };
      tied = stands.tied;
    }
