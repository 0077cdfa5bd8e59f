use Rattle.rm_filter.proofs.group.FiltersCommits.commit.Goals as goal

pub returns-clause-stands : goal.returns-clause-stands
returns-clause-stands g c settings journal values stands later askable gives = c.commit.ensures.stands settings journal values stands later (tt, tt) gives
