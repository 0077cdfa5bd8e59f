use Rattle.rm_history.specs.Collection.{history_collection}
use Rattle.rm_sourced.specs.Collection.{source_collection}
use Rattle.rm_collectors.proofs.collectors.Collectors.new.Goals as goal

pub returns-clause-stands : goal.returns-clause-stands
unfolding history_collection source_collection
returns-clause-stands c counting set = record {
  history = c.new-history.ensures.stands counting tt;
  matrix = c.new-matrix.ensures.stands counting set.pairs;
  hosts = c.new-hosts.ensures.stands counting set.hosts;
  reports = c.new.ensures.stands counting;
}
