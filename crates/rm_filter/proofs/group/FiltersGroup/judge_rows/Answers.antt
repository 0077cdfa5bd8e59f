use Rattle.rm_filter.proofs.group.FiltersGroup.judge_rows.Goals as goal

pub returns-clause-verdict : goal.returns-clause-verdict
returns-clause-verdict g c settings journal stands later askable = c.judge_rows.ensures.verdict settings journal stands later (tt, tt)
