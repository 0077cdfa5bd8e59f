use Rattle.rm_model.specs.Journal.{assigns}
use Rattle.rm_layer_tables.specs.ControlColumns.{layer_rows}
use Rattle.rm_hl_matrices.specs.Collection.{pair_collection}
use Rattle.rm_hl_matrices.specs.Pairs.{source_layer}
use Rattle.rm_hl_matrices.proofs.pairs.PairPartCollected.begin.Goals as goal

pub returns-clause-begun : goal.returns-clause-begun
unfolding pair_collection layer_rows
returns-clause-begun c settings values earlier row shared idle valid fresh = record {
  source = fresh.columns_are.0.shown;
  held = c.begin.ensures.begun source_layer settings row (assigns c.args._now values) earlier shared fresh.columns_are.1.0.shown fresh.columns_are.1.1.0.shown idle valid;
}
