use Rattle.rm_dist.proofs.CountLemmas.{first_is}
use Rattle.rm_dist.proofs.counts.Counts.first.Goals as goal

pub returns : goal.returns
returns c = rw (c.local_of.ensures, c.first.ensures.value, c.as_slice.ensures.value, c.self.view_is) (first_is c.args.self.now (rw c.self.view_is at c.self.invariant))
