use Rattle.std.proofs.Common.{◌∷◌, refl}
use Rattle.rm_model.specs.Journal.{assigns}
use Rattle.rm_group.proofs.both.BothCommits.commit.Goals as goal

pub returns-clause-stands : goal.returns-clause-stands
returns-clause-stands g c settings journal values is later askable gives =
    let first = c.commit.ensures.stands settings journal values is.first later askable.0 gives in record {
      first = first;
      second = c.complete.ensures.stands settings (assigns c.args.now values ∷ journal) is.tied first refl
          (c.begin.ensures.begun settings journal values is.tied is.first is.second later askable.0 askable.1 gives);
      tied = is.tied;
    }
