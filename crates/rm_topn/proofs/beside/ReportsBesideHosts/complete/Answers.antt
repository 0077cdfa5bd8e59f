use Rattle.rm_topn.proofs.beside.ReportsBesideHosts.complete.Goals as goal

pub returns-clause-stands : goal.returns-clause-stands
returns-clause-stands c settings journal tied stand at begun = c.begin_all.ensures.stands settings journal stand at begun
