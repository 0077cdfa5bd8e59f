use Rattle.std.proofs.Common.{sym}
use Rattle.rm_ether.proofs.ether.EtherUnfired.take_frame.Goals as goal

pub returns-clause-stands : goal.returns-clause-stands
returns-clause-stands c settings earlier frame is stands later asked = c.frame.ensures.stands settings earlier frame stands is.known (sym is.at)
