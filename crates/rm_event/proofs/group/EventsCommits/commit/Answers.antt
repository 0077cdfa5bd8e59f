use Rattle.std.proofs.Common.{◌∷◌}
use Rattle.rm_model.specs.Journal.{assigns}
use Rattle.rm_event.proofs.group.EventsCommits.commit.Goals as goal

pub returns-clause-stands : goal.returns-clause-stands
returns-clause-stands g c settings journal values stands later askable gives =
    c.give_back.ensures.stands settings (assigns c.args._now values ∷ journal) (c.assign.ensures.stands settings journal c.args._now values stands gives)
