use Rattle.std.proofs.Common.{◌≡◌, ℕ, slice_index_or, refl, sym, ap, subst}
use Rattle.std.specs.Vec.{with_item}
use Rattle.rm_block.specs.Link.{place_of}
use Rattle.rm_recency.specs.declared.RecencyList.{RecencyList}
use Rattle.rm_recency.proofs.RecencyList.at_mut.Goals as goal

pub returns : goal.returns
returns g c =
    let t : RecencyList g.row.K.Denot g.row.V.Denot = c.args.self.now in let e = sym c.known.ensures.0 in (
      (refl, λ w. ap (λ (k : ℕ). (let u : RecencyList g.row.K.Denot g.row.V.Denot = record { nodes = with_item t.nodes (place_of k t.nodes (record { ptr = c.args.ptr })) w; ends = t.ends; stride = t.stride } in u)) e),
      record {
        writes_back = tt;
        value = subst (λ (k : ℕ). c.node_at_mut.result.now ≡ slice_index_or t.nodes.items (place_of k t.nodes (record { ptr = c.args.ptr })) c.node_at_mut.result.now) e c.node_at_mut.ensures.value;
      },
    )
