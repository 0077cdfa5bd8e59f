use Rattle.rm_topn.specs.Lasting.{sample_passes}
use Rattle.rm_topn.proofs.course.Course.sample_passes.Goals as goal

pub returns : goal.returns
returns c settings journal row alarm reading later is = sample_passes settings c.args.moment alarm reading journal row c.args.self.now later is
