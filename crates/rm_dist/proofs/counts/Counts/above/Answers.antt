use Rattle.rm_dist.proofs.CountLemmas.{above_is}
use Rattle.rm_dist.proofs.counts.Counts.above.Goals as goal

pub returns : goal.returns
returns c = rw (c.local_of.ensures, c.count_above.ensures, c.as_slice.ensures.value, c.self.view_is) (above_is c.args.self.now c.args.local (rw c.self.view_is at c.self.invariant))
