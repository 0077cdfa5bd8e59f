use Rattle.rm_sources.specs.Group.{Stands}
use Rattle.rm_sources.proofs.sources.Sources.new.Goals as goal

pub returns-clause-stands : goal.returns-clause-stands
unfolding Stands
returns-clause-stands c settings set = record {
  first = record { first = c.new.ensures.stands settings set.interfaces; second = c.new-2.ensures.stands settings set.collectors; tied = tt };
  second = record { first = c.new-3.ensures.stands settings set.upper; second = c.new-4.ensures.stands settings; tied = tt };
  tied = tt;
}
