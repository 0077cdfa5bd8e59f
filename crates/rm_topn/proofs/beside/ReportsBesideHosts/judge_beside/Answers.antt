use Rattle.rm_topn.proofs.beside.ReportsBesideHosts.judge_beside.Goals as goal

pub returns-clause-verdict : goal.returns-clause-verdict
returns-clause-verdict g c settings journal tied stand stands later hosts_asked asked = c.judge_rows.ensures.verdict settings journal stands later asked
