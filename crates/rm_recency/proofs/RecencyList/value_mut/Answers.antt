use Rattle.std.proofs.Common.{◌≡◌, Some, Option, slice_get, option_map, refl, sym, ap}
use Rattle.std.proofs.lemmas.Option.{slice_get_read}
use Rattle.rm_recency.specs.declared.Node.{Node}
use Rattle.rm_evicting.specs.declared.Row.{Row}
use Rattle.rm_recency.specs.Threads.{place, row_of}
use Rattle.rm_recency.specs.Lending.{with_value_of}
use Rattle.rm_recency.proofs.RecencyList.value_mut.Goals as goal

pub returns : goal.returns
returns g c =
    let t = c.args.self.now in let n = c.at_mut-node.result.now in
    let got : slice_get t.nodes.items (place t c.args.ptr) ≡ Some n = slice_get_read t.nodes.items t.nodes.len (place t c.args.ptr) n t.nodes.ok.0 c.requires.0 c.at_mut-node.ensures.value in (
      (refl, λ w. sym (ap (with_value_of t c.args.ptr w) got)),
      record {
        writes_back = tt;
        value = ap (λ (o : Option (Node g.row.K.Denot g.row.V.Denot)). option_map (λ (r : Row g.row.K.Denot g.row.V.Denot). r.value) (option_map row_of o)) got;
      },
    )
