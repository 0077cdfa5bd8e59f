use Rattle.std.proofs.Common.{◌∷◌}
use Rattle.rm_model.specs.Journal.{assigns}
use Rattle.rm_protocols.proofs.group.ProtocolTablesCommits.commit.Goals as goal

pub returns-clause-stands : goal.returns-clause-stands
returns-clause-stands g c settings journal values stands later askable gives =
    let directory = c.commit.ensures.stands settings journal values stands.directory later tt gives in
    let with_set = assigns c.args.now values ∷ journal in record {
      directory = directory;
      distribution = c.sift.ensures.stands settings with_set directory (c.assign.ensures.begun settings journal values stands.distribution gives);
      hosts = c.complete.ensures.stands settings with_set directory (c.assign-2.ensures.begun settings journal values stands.hosts later gives);
      pairs = c.complete-2.ensures.stands settings with_set directory (c.assign-3.ensures.begun settings journal values stands.pairs later gives);
    }
