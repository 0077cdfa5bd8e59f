use Rattle.rm_agent.specs.Known.{counting_by}
use Rattle.rm_agent.proofs.groups.first_groups.Goals as goal

pub returns-clause-stands : goal.returns-clause-stands
returns-clause-stands c = record {
  first = tt;
  second = record {
    first = c.new.ensures.stands (counting_by c.args.settings.now);
    second = c.first_watched.ensures.stands;
    tied = tt;
  };
  tied = tt;
}
