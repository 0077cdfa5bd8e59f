use Rattle.std.proofs.Common.{◌∷◌, refl}
use Rattle.rm_model.specs.Journal.{assigns}
use Rattle.rm_collectors.proofs.group.CollectorsCommits.commit.Goals as goal

pub returns-clause-stands : goal.returns-clause-stands
returns-clause-stands g c settings journal values stands later askable gives =
    let hosts = c.commit-3.ensures.stands settings journal values stands.hosts later tt gives in record {
      history = c.commit.ensures.stands settings journal values stands.history later tt gives;
      matrix = c.commit-2.ensures.stands settings journal values stands.matrix later tt gives;
      hosts = hosts;
      reports = c.complete.ensures.stands settings (assigns c.args.now values ∷ journal) tt hosts refl
          (c.begin.ensures.begun settings journal values tt stands.hosts stands.reports later tt askable gives);
    }
