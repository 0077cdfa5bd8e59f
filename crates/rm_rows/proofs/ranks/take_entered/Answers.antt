use Rattle.std.proofs.Common.{◌≡◌, ◌<◌, ap, ◌∙◌, sym, take, drop, suc, length, Option, Some, None, IsSome, OnSome, slice_get, true≢false, arith}
use Rattle.std.proofs.lemmas.Option.{slice_get_within}
use Rattle.rm_rows.proofs.Members.{in_at, cut_at}
use Rattle.rm_rows.proofs.RankLemmas.{entry_place}
use Rattle.rm_rows.proofs.ranks.take_entered.Goals as goal

on_some : {X : Type 0} (o : Option X) {P : Type 0} → IsSome o → OnSome o P → P
on_some None i f = absurd (true≢false (sym i))
on_some (Some x) i f = f

pub unreachable-requires : goal.unreachable-requires
unreachable-requires g c = c.in-None.ensures.none c.requires.held.0 c.requires.held.1 c.requires.held.2

pub returns-clause-items : goal.returns-clause-items
returns-clause-items g c =
    λ p member has.
    let d = c.args.entered.now in let es = d.items in let i = c.in-Some.place in
    let found = c.in-Some.ensures.some in
    let on = in_at p es member in
    let same : i ≡ on.0 = entry_place c.args.list.now es c.args.entry c.requires.order.1 i on.0 found.0 p found.1 found.2 on.2 has in
    let got : slice_get es i ≡ Some p = ap (slice_get es) same ∙ on.2 in
    let within : i < d.len = (let lt = slice_get_within es i p got in let len : d.len ≡ length es = d.ok.0 in omega arith) in
    (take i es, drop (suc i) es, cut_at es i p got, on_some c.remove.result (c.remove.ensures.variant.1 within) c.remove.ensures.items)

pub returns-clause-len : goal.returns-clause-len
returns-clause-len g c =
    let d = c.args.entered.now in let found = c.in-Some.ensures.some in
    let within : c.in-Some.place < d.len = (let lt = slice_get_within d.items c.in-Some.place found.0 found.1 in let len : d.len ≡ length d.items = d.ok.0 in omega arith) in
    on_some c.remove.result (c.remove.ensures.variant.1 within) c.remove.ensures.len
