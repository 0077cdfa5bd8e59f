use Rattle.std.proofs.Common.{length}
use Rattle.rm_group.specs.Alone.{alone_at}
use Rattle.rm_keyed.specs.TwoTables.{alone_of_two}
use Rattle.rm_layer_tables.specs.Tables.{listed}
use Rattle.rm_hl_matrices.specs.Collection.{pair_collection}
use Rattle.rm_hl_matrices.specs.Pairs.{nl_matrix_sd, nl_matrix_ds, al_matrix_sd, al_matrix_ds}
use Rattle.rm_hl_matrices.proofs.pairs.PairPartCollected.judge_inner.Goals as goal

pub returns : goal.returns
unfolding pair_collection
returns g c =
    let bindings = g.A.Assigns.bindings c.args.set.now in
    c.lower_verdict.ensures.lowest (length bindings) (alone_at (alone_of_two (listed nl_matrix_sd) (listed nl_matrix_ds)) bindings) (alone_at (alone_of_two (listed al_matrix_sd) (listed al_matrix_ds)) bindings)
    c.judge_two-networks.ensures c.judge_two-applications.ensures
