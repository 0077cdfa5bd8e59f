use Rattle.std.proofs.Common.{Some, ap, ◌∙◌, arith}
use Rattle.std.proofs.lemmas.Bool.{ltb-true}
use Rattle.rm_rows.proofs.NextLemmas.{front_at, front_none, front_tops}
use Rattle.rm_rows.proofs.walk.is_past.Goals as goal

pub row-requires : goal.row-requires
row-requires g c =
    front_at g.K.Ord.cmp c.args.list.now c.requires.0 c.requires.1 c.requires.2 c.in-Some.ptr (c.newest.ensures ∙ ap (λ o. Some o) c.in-Some.is)

pub returns-in-None : goal.returns-in-None
returns-in-None g c =
    λ t es xs p row k h e. absurd (front_none g.K.Ord.cmp c.args.list.now es xs k (c.newest.ensures ∙ ap (λ o. Some o) c.in-None.is) p h)

pub returns-in-Some : goal.returns-in-Some
returns-in-Some g c =
    λ t es xs p row k h e.
    let below = ltb-true c.row.result.now.tick c.args.mark t in
    let top = front_tops g.K.Ord.cmp c.args.list.now es xs k c.in-Some.ptr (c.newest.ensures ∙ ap (λ o. Some o) c.in-Some.is) c.row.result.now c.row.ensures p row h e in
    omega arith
