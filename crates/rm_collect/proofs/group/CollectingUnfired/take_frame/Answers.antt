use Rattle.rm_collect.proofs.group.CollectingUnfired.take_frame.Goals as goal

pub returns-clause-stands : goal.returns-clause-stands
returns-clause-stands g c settings earlier frame is stands later asked = c.frame.ensures.stands settings earlier frame stands is
