use Rattle.std.proofs.Common.{◌≡◌, suc, take, drop, remove, refl, sym, ◌∙◌, Some, None}
use Rattle.rm_rows.proofs.Members.{cut_at}
use Rattle.rm_rows.proofs.MoveLemmas.{takes_some, taken_in, taken_at, taken_order, taken_index, taken_member, put_out_is}
use Rattle.rm_rows.proofs.index.put_out.Goals as goal

none_some : {X : Type 0} {x : X} → None ≡ Some x → ⊥
none_some e = cc

pub row-row-requires : goal.row-row-requires
row-row-requires g c = taken_at g.K.Ord.cmp g.met.K.Ord.total c.args.list.now c.args.entered.now.items c.args.index.now.items c.requires.kept c.take_oldest.new.self c.requires.some c.take_oldest.result c.take_oldest.ensures.some c.in-Some.ptr c.in-Some.is c.take_oldest.ensures.nodes

pub take_entered-requires-clause-order : goal.take_entered-requires-clause-order
take_entered-requires-clause-order g c = taken_order g.K.Ord.cmp g.met.K.Ord.total c.args.list.now c.args.entered.now.items c.args.index.now.items c.requires.kept c.take_oldest.new.self c.requires.some c.take_oldest.result c.take_oldest.ensures.some c.in-Some.ptr c.in-Some.is c.take_oldest.ensures.nodes

pub take_entered-requires-clause-held : goal.take_entered-requires-clause-held
take_entered-requires-clause-held g c =
    let among = taken_in g.K.Ord.cmp g.met.K.Ord.total c.args.list.now c.args.entered.now.items c.args.index.now.items c.requires.kept c.take_oldest.new.self c.requires.some c.take_oldest.result c.take_oldest.ensures.some c.in-Some.ptr c.in-Some.is c.take_oldest.ensures.nodes in
    (c.in-Some.ptr, among, (c.row-row.result.now, c.row-row.ensures, refl))

pub place_of-requires-clause-index : goal.place_of-requires-clause-index
place_of-requires-clause-index g c = taken_index g.K.Ord.cmp g.met.K.Ord.total c.args.list.now c.args.entered.now.items c.args.index.now.items c.requires.kept c.take_oldest.new.self c.requires.some c.take_oldest.result c.take_oldest.ensures.some c.in-Some.ptr c.in-Some.is c.take_oldest.ensures.nodes

pub unreachable-requires : goal.unreachable-requires
unreachable-requires g c =
    let on = takes_some g.K.Ord.cmp g.met.K.Ord.total c.args.list.now c.args.entered.now.items c.args.index.now.items c.requires.kept c.take_oldest.new.self c.requires.some c.take_oldest.result c.take_oldest.ensures.some in
    none_some (sym c.in-None.is ∙ on.1)

pub returns-clause-out : goal.returns-clause-out
returns-clause-out g c =
    let xs = c.args.index.now.items in let i = c.place_of.result in
    let among = taken_in g.K.Ord.cmp g.met.K.Ord.total c.args.list.now c.args.entered.now.items c.args.index.now.items c.requires.kept c.take_oldest.new.self c.requires.some c.take_oldest.result c.take_oldest.ensures.some c.in-Some.ptr c.in-Some.is c.take_oldest.ensures.nodes in
    let member = taken_member g.K.Ord.cmp g.met.K.Ord.total c.args.list.now c.args.entered.now.items c.args.index.now.items c.requires.kept c.take_oldest.new.self c.requires.some c.take_oldest.result c.take_oldest.ensures.some c.in-Some.ptr c.in-Some.is c.take_oldest.ensures.nodes in
    put_out_is g.K.Ord.cmp g.met.K.Ord.total c.args.list.now c.args.entered.now.items c.args.index.now.items c.requires.kept c.take_oldest.new.self c.requires.some c.take_oldest.result c.take_oldest.ensures.some c.in-Some.ptr c.in-Some.is c.take_oldest.ensures.nodes c.row-row.result.now c.take_entered.new.entered.items (remove xs i) c.row-row.ensures
    (c.take_entered.ensures.items c.in-Some.ptr among (c.row-row.result.now, c.row-row.ensures, refl))
    (take i xs, drop (suc i) xs, cut_at xs i c.in-Some.ptr (c.place_of.ensures c.in-Some.ptr member (c.row-row.result.now, c.row-row.ensures, refl)), refl)

pub returns-clause-place : goal.returns-clause-place
returns-clause-place g c =
    let member = taken_member g.K.Ord.cmp g.met.K.Ord.total c.args.list.now c.args.entered.now.items c.args.index.now.items c.requires.kept c.take_oldest.new.self c.requires.some c.take_oldest.result c.take_oldest.ensures.some c.in-Some.ptr c.in-Some.is c.take_oldest.ensures.nodes in
    c.place_of.ensures c.in-Some.ptr member (c.row-row.result.now, c.row-row.ensures, refl)

pub place_of-requires-clause-held : goal.place_of-requires-clause-held
place_of-requires-clause-held g c =
    let among = taken_member g.K.Ord.cmp g.met.K.Ord.total c.args.list.now c.args.entered.now.items c.args.index.now.items c.requires.kept c.take_oldest.new.self c.requires.some c.take_oldest.result c.take_oldest.ensures.some c.in-Some.ptr c.in-Some.is c.take_oldest.ensures.nodes in
    (c.in-Some.ptr, among, (c.row-row.result.now, c.row-row.ensures, refl))
