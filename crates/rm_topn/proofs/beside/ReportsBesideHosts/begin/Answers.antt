use Rattle.std.proofs.Common.{◌∷◌}
use Rattle.rm_model.specs.Journal.{assigns}
use Rattle.rm_topn.proofs.Hosts.{go_on}
use Rattle.rm_topn.proofs.beside.ReportsBesideHosts.begin.Goals as goal

pub returns-clause-begun : goal.returns-clause-begun
returns-clause-begun g c settings journal values tied stand stands later hosts_asked asked gives =
    let with_set = assigns c.args.now values ∷ journal in
    c.give_back.ensures.begun settings with_set
    (c.assign.ensures.begun settings journal values stands later asked gives (go_on journal with_set (c.goes_on.ensures settings journal values stand later gives)))
