use Rattle.rm_hl_matrices.specs.Collection.{pair_collection}
use Rattle.rm_hl_matrices.proofs.pairs.PairPartByOtherDirectory.shared_by.Goals as goal

pub returns : goal.returns
unfolding pair_collection
returns c settings earlier later shared stands = c.by.ensures settings later shared.upper stands
