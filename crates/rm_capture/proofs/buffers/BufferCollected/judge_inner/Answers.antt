use Rattle.rm_capture.specs.Collection.{buffer_collection}
use Rattle.rm_capture.proofs.buffers.BufferCollected.judge_inner.Goals as goal

pub returns : goal.returns
unfolding buffer_collection
returns g c = rw (c.entry.ensures, c.columns.ensures) at c.judge_read_only.ensures
