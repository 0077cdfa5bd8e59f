use Rattle.rm_dist.proofs.SampleLemmas.{stands_sampled}
use Rattle.rm_dist.proofs.distribution.Distribution.sample_begins.Goals as goal

pub returns : goal.returns
returns c settings journal alarm reading stands = stands_sampled settings journal c.args.moment alarm reading c.args.self.now stands
