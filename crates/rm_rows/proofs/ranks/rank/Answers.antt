use Rattle.std.proofs.Common.{◌≡◌, ◌+◌, length, refl, sym, ap, arith}
use Rattle.std.specs.Option.{option_map}
use Rattle.std.proofs.lemmas.Option.{slice_get_within}
use Rattle.rm_evicting.specs.declared.Row.{Row}
use Rattle.rm_evicting.proofs.Keys.{exact_key}
use Rattle.rm_rows.specs.Index.{rows_in}
use Rattle.rm_rows.proofs.KeptLemmas.{member_at}
use Rattle.rm_rows.proofs.RankLemmas.{key_entered, position_of_none}
use Rattle.rm_rows.proofs.ranks.rank.Goals as goal

pub row-requires : goal.row-requires
row-requires g c =
    let k = c.requires in
    member_at g.K.Ord.cmp c.args.list.now c.args.entered.now.items k.rs c.args.index.now.items k.links k.recency k.stored c.in-Some.ptr (k.stored.index.back c.in-Some.ptr c.in-Some.ensures.some.0)

pub overflow_add-result : goal.overflow_add-result
overflow_add-result g c =
    let d = c.args.entered.now in let found = c.in-Some-find_entry.ensures.some in
    let lt = slice_get_within d.items c.in-Some-find_entry.place found.0 found.1 in
    let len : d.len ≡ length d.items = d.ok.0 in let small = d.small in record { fits = omega arith }

pub returns-in-Some-find_entry : goal.returns-in-Some-find_entry
returns-in-Some-find_entry g c =
    let exact = exact_key g.K.PartialEq.eq g.K.Ord.cmp g.met.K.Eq.laws g.met.K.Ord.matches_eq g.met.K.Key.exact in
    let found = c.in-Some-find_entry.ensures.some in let node = c.in-Some.ensures.some in
    sym (ap (option_map (λ n. n + 1)) (key_entered g.K.Ord.cmp g.met.K.Ord.total g.K.PartialEq.eq exact c.args.list.now c.args.entered.now.items c.args.index.now.items c.requires c.args.key.now
    c.in-Some-find_entry.place c.in-Some.ptr found.0 c.row.result.now.entry found.1 found.2 node.0 node.1 (c.row.result.now, c.row.ensures, refl)))

pub returns-in-None-find_entry : goal.returns-in-None-find_entry
returns-in-None-find_entry g c =
    absurd (c.in-None-find_entry.ensures.none c.in-Some.ptr (c.requires.stored.index.back c.in-Some.ptr c.in-Some.ensures.some.0) (c.row.result.now, c.row.ensures, refl))

pub returns-in-None : goal.returns-in-None
returns-in-None g c =
    sym (ap (option_map (λ n. n + 1)) (position_of_none (λ (r : Row g.row.K.Denot g.row.V.Denot). g.K.PartialEq.eq c.args.key.now r.key) (rows_in c.args.list.now c.args.entered.now.items)
    (c.in-None.ensures.none c.args.entered.now.items c.requires)))
