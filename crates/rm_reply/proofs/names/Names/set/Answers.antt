use Rattle.std.proofs.Common.{List, map, length, ap, slice_set, ◌∙◌}
use Rattle.std.proofs.lemmas.List.{length-set, map-set}
use Rattle.rm_reply.specs.declared.names.Asked.{Asked}
use Rattle.rm_reply.proofs.NameLemmas.{refill_same}
use Rattle.rm_reply.proofs.names.Names.set.Goals as goal

pub returns : goal.returns
returns g c =
    let items = c.self.inside.items.items in
    let asked : Asked = record { name = c.args.name } in
    let lent = c.deref_mut.result.now in
    let same = c.deref_mut.ensures.value in
    ap (map (λ (a : Asked). a.name)) (refill_same items (slice_set lent c.args.place asked) (length-set lent c.args.place asked ∙ ap length same) ∙ ap (λ (l : List Asked). slice_set l c.args.place asked) same)
    ∙ map-set (λ (a : Asked). a.name) items c.args.place asked
    ∙ ap (λ ns. slice_set ns c.args.place c.args.name) c.self.view_is
