use Rattle.std.proofs.Common.{refl, ap, option_map}
use Rattle.rm_recency.specs.Threads.{row_of, place}
use Rattle.rm_recency.proofs.SetLemmas.{here}
use Rattle.rm_recency.proofs.RowLemmas.{row_set}
use Rattle.rm_recency.proofs.RecencyList.renew.Goals as goal

pub returns : goal.returns
returns g c =
    let n = c.node_mut-node.result.now in let at = c.node_mut-node.ensures.value in (
      n.row,
      ap (option_map row_of) (here c.args.self.now c.args.ptr n n c.requires at),
      row_set c.args.self.now c.args.ptr n _ c.requires at refl,
    )
