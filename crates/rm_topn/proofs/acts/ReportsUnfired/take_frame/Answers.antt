use Rattle.std.proofs.Common.{sym}
use Rattle.rm_topn.proofs.acts.ReportsUnfired.take_frame.Goals as goal

pub returns-clause-stands : goal.returns-clause-stands
returns-clause-stands c settings earlier frame is stands later asked = c.frame.ensures.stands settings earlier frame stands later asked is.known (sym is.at)
