use Rattle.std.proofs.Common.{◌≡◌, Some, None, ap, ◌∙◌, sym}
use Rattle.rm_evicting.proofs.Keys.{exact_key}
use Rattle.rm_recency.specs.Threads.{next_of}
use Rattle.rm_rows.proofs.KeptLemmas.{member_at, newest_in}
use Rattle.rm_rows.proofs.index.newest_of.Goals as goal

pub row-requires : goal.row-requires
row-requires g c =
    let t = c.args.list.now in let es = c.requires.0 in let xs = c.requires.1 in let k = c.requires.2 in
    let first : next_of t None ≡ Some (Some c.in-Some.ptr) = c.newest.ensures ∙ ap (λ o. Some o) c.in-Some.is in
    member_at g.K.Ord.cmp t es k.rs xs k.links k.recency k.stored c.in-Some.ptr (newest_in g.K.Ord.cmp t es xs c.in-Some.ptr k first).0

pub returns-in-Some : goal.returns-in-Some
returns-in-Some g c =
    let exact = exact_key g.K.PartialEq.eq g.K.Ord.cmp g.met.K.Eq.laws g.met.K.Ord.matches_eq g.met.K.Key.exact in
    let t = c.args.list.now in
    let first : next_of t None ≡ Some (Some c.in-Some.ptr) = c.newest.ensures ∙ ap (λ o. Some o) c.in-Some.is in
    λ es xs k. ((newest_in g.K.Ord.cmp t es xs c.in-Some.ptr k first).1, (c.row.result.now, c.row.ensures, exact.same c.row.result.now.key c.args.key.now (sym c.eq.ensures ∙ c.if-eq.true)))
