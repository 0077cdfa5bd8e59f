use Rattle.std.proofs.Common.{refl, subst}
use Rattle.rm_evicting.specs.Row.{blank_row}
use Rattle.rm_recency.specs.Threads.{RowSet}
use Rattle.rm_recency.proofs.SetLemmas.{changed}
use Rattle.rm_recency.proofs.RowLemmas.{row_set}
use Rattle.rm_recency.proofs.RecencyList.begin.Goals as goal

pub returns : goal.returns
returns g c =
    let n = c.node_mut-node.result.now in
    let begun = changed c.args.self.now c.args.ptr n (record { links = n.links; row = blank_row c.empty.new.self c.args.key c.args.stamp c.args.tick }) in
    subst (λ v. RowSet c.args.self.now begun c.args.ptr (blank_row v c.args.key c.args.stamp c.args.tick)) c.empty.ensures
    (row_set c.args.self.now c.args.ptr n _ c.requires c.node_mut-node.ensures.value refl)
