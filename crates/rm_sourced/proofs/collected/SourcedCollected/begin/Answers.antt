use Rattle.std.proofs.Common.{◌*◌}
use Rattle.rm_sourced.specs.Collection.{source_collection}
use Rattle.rm_sourced.proofs.collected.SourcedCollected.begin.Goals as goal

pub returns-clause-fits : goal.returns-clause-fits
unfolding source_collection
returns-clause-fits g c frames = c.begin.ensures.ready (2 * frames) c.args._now
