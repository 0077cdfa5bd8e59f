use Rattle.std.proofs.Common.{◌∷◌, refl, ◌∙◌}
use Rattle.rm_model.specs.Journal.{assigns}
use Rattle.rm_history.specs.Collection.{history_collection}
use Rattle.rm_history.proofs.Begun.{begun_run}
use Rattle.rm_history.proofs.collected.RunCollected.begin.Goals as goal

pub returns-clause-begun : goal.returns-clause-begun
unfolding history_collection
returns-clause-begun c settings values earlier row suits idle valid fresh =
    begun_run settings (assigns c.args.now values ∷ earlier) row c.args.now c.args.columns.now c.restart.new.self refl fresh
    c.restart.ensures.source (c.restart.ensures.plan ∙ c.plan_from.ensures) c.restart.ensures.closed c.restart.ensures.buckets
