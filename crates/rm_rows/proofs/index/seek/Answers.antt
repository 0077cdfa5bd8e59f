use Rattle.std.proofs.Common.{sym, ap, ◌∙◌}
use Rattle.rm_evicting.specs.declared.Row.{Row}
use Rattle.rm_evicting.proofs.Keys.{exact_key}
use Rattle.rm_rows.proofs.Members.{of_some}
use Rattle.rm_rows.proofs.KeptLemmas.{member_at}
use Rattle.rm_rows.proofs.TouchLemmas.{seek_some}
use Rattle.rm_rows.proofs.index.seek.Goals as goal

pub row-requires : goal.row-requires
row-requires g c =
    let k = c.requires.1 in
    member_at g.K.Ord.cmp c.args.list.now c.requires.0 k.rs c.args.index.now.items k.links k.recency k.stored c.in-Some.ptr (k.stored.index.back c.in-Some.ptr c.in-Some.ensures.some.0)

pub returns-in-Some : goal.returns-in-Some
returns-in-Some g c =
    let exact = exact_key g.K.PartialEq.eq g.K.Ord.cmp g.met.K.Eq.laws g.met.K.Ord.matches_eq g.met.K.Key.exact in
    let found = c.in-Some.ensures.some in
    λ es k. sym (seek_some g.K.Ord.cmp g.met.K.Ord.total g.K.PartialEq.eq exact c.args.list.now es c.args.index.now.items k c.args.key.now c.in-Some.ptr c.row.result.now found.0 c.row.ensures
    (ap (λ (w : Row g.row.K.Denot g.row.V.Denot). w.key) (of_some (sym c.row.ensures ∙ found.1.1)) ∙ found.1.2))

pub returns-in-None : goal.returns-in-None
returns-in-None g c = λ es k. sym (c.in-None.ensures.none es k)
