use Rattle.rm_dist.proofs.SetLemmas.{sifted_rise}
use Rattle.rm_dist.proofs.counts.Counts.sift.Goals as goal

pub invariant_of-self : goal.invariant_of-self
invariant_of-self c = rw (c.sifted-self-inside.ensures, c.as_slice.ensures.value, c.self.view_is) (sifted_rise c.args.protocols.now c.args.self.now (rw c.self.view_is at c.self.invariant))
