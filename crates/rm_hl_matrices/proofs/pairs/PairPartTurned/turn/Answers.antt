use Rattle.std.proofs.Common.{◌*◌, sym, ap}
use Rattle.rm_hl_matrices.specs.Collection.{pair_collection}
use Rattle.rm_hl_matrices.specs.PairLaws.{source_named}
use Rattle.rm_hl_matrices.specs.Pairs.{source_layer}
use Rattle.rm_hl_matrices.proofs.pairs.PairPartTurned.turn.Goals as goal

pub returns-clause-turned : goal.returns-clause-turned
unfolding pair_collection
returns-clause-turned c settings moment values earlier row given shared begun = record {
  source = begun.source;
  held = c.turn.ensures.turned source_layer settings row moment values earlier source_named (rw c.from.ensures (ap (λ frames. 2 * frames) (sym given))) shared begun.held;
}
