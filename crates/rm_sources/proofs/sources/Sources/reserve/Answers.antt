use Rattle.rm_sources.specs.Group.{Stands}
use Rattle.rm_sources.proofs.sources.Sources.reserve.Goals as goal

pub returns-in_err-reserve-clause-stands : goal.returns-in_err-reserve-clause-stands
unfolding Stands
returns-in_err-reserve-clause-stands c settings journal stands = record {
  first = record { first = stands.first.first; second = c.reserve.ensures.stands settings journal stands.first.second; tied = tt };
  second = stands.second;
  tied = tt;
}

pub returns-in_err-reserve-2-clause-stands : goal.returns-in_err-reserve-2-clause-stands
unfolding Stands
returns-in_err-reserve-2-clause-stands c settings journal stands = record {
  first = record { first = stands.first.first; second = c.reserve.ensures.stands settings journal stands.first.second; tied = tt };
  second = record { first = c.reserve-2.ensures.stands settings journal stands.second.first; second = stands.second.second; tied = tt };
  tied = tt;
}

pub returns-clause-stands : goal.returns-clause-stands
unfolding Stands
returns-clause-stands c settings journal stands = record {
  first = record { first = stands.first.first; second = c.reserve.ensures.stands settings journal stands.first.second; tied = tt };
  second = record { first = c.reserve-2.ensures.stands settings journal stands.second.first; second = c.reserve-3.ensures.stands settings journal stands.second.second; tied = tt };
  tied = tt;
}
