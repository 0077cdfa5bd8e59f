use Rattle.rm_topn.proofs.Going.{set_passes}
use Rattle.rm_topn.proofs.course.Course.set_passes.Goals as goal

pub returns : goal.returns
returns c settings journal row values later ended valid no_start hosts is = set_passes settings c.args.moment values journal row c.args.self.now later ended valid no_start hosts is
