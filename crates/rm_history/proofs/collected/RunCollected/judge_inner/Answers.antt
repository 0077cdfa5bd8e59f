use Rattle.rm_history.specs.Collection.{history_collection}
use Rattle.rm_history.proofs.collected.RunCollected.judge_inner.Goals as goal

pub returns : goal.returns
unfolding history_collection
returns g c = rw (c.entry.ensures, c.columns.ensures) at c.judge_read_only.ensures
