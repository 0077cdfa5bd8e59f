use Rattle.rm_sources.specs.Group.{Stands}
use Rattle.rm_sources.proofs.sources.Sources.end_by.Goals as goal

pub returns-clause-stands : goal.returns-clause-stands
unfolding Stands
returns-clause-stands c settings journal stands = record {
  first = record { first = stands.first.first; second = c.end_by.ensures.stands settings journal stands.first.second; tied = tt };
  second = stands.second;
  tied = tt;
}
