use Rattle.rm_collect.proofs.collecting.Collecting.frame.Goals as goal

pub returns-clause-stands : goal.returns-clause-stands
returns-clause-stands g c settings journal frame stands of = c.take_judged.ensures.stands settings journal frame stands of (g.met.P.ByFacts.unjudged settings journal frame)
