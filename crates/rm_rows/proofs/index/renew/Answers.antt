use Rattle.std.proofs.Common.{refl, ◌++◌}
use Rattle.rm_recency.proofs.ThreadLemmas.{at_as, same_trans}
use Rattle.rm_evicting.proofs.Keys.{exact_key}
use Rattle.rm_rows.proofs.KeptLemmas.{member_at, recent_in}
use Rattle.rm_rows.proofs.MoveLemmas.{renew_kept, renew_rows}
use Rattle.rm_rows.proofs.index.renew.Goals as goal

pub unlink-requires : goal.unlink-requires
unlink-requires g c =
    let may = c.requires.2 in let k = may.kept in
    recent_in g.K.Ord.cmp c.args.list.now c.requires.0 k.rs c.requires.1 k.links k.recency k.stored c.args.ptr (k.stored.index.back c.args.ptr may.member)

pub link_front-requires : goal.link_front-requires
link_front-requires g c =
    let may = c.requires.2 in let k = may.kept in let member = k.stored.index.back c.args.ptr may.member in
    let cut = recent_in g.K.Ord.cmp c.args.list.now c.requires.0 k.rs c.requires.1 k.links k.recency k.stored c.args.ptr member in (
      at_as c.args.list.now c.unlink.new.self c.unlink.ensures.nodes c.args.ptr (member_at g.K.Ord.cmp c.args.list.now c.requires.0 k.rs c.requires.1 k.links k.recency k.stored c.args.ptr member),
      (cut.0 ++ cut.1, c.unlink.ensures.list cut.0 cut.1 cut.2),
    )

pub renew-requires : goal.renew-requires
renew-requires g c =
    let may = c.requires.2 in let k = may.kept in let member = k.stored.index.back c.args.ptr may.member in
    at_as c.args.list.now c.link_front.new.self (same_trans c.args.list.now c.unlink.new.self c.link_front.new.self c.unlink.ensures.nodes c.link_front.ensures.nodes) c.args.ptr
    (member_at g.K.Ord.cmp c.args.list.now c.requires.0 k.rs c.requires.1 k.links k.recency k.stored c.args.ptr member)

pub returns-clause-kept : goal.returns-clause-kept
returns-clause-kept g c =
    λ es xs may. renew_kept g.K.Ord.cmp g.met.K.Ord.total c.args.list.now c.unlink.new.self c.link_front.new.self c.renew.new.self c.args.ptr c.renew.ensures.0 _
    c.unlink.ensures.list c.unlink.ensures.nodes c.link_front.ensures.list c.link_front.ensures.nodes c.renew.ensures.1 c.renew.ensures.2 refl refl
    es xs may.kept may.member may.stamps may.ticks

pub returns-clause-rows : goal.returns-clause-rows
returns-clause-rows g c =
    λ es xs h may key. renew_rows g.K.Ord.cmp g.met.K.Ord.total c.args.list.now c.unlink.new.self c.link_front.new.self c.renew.new.self c.args.ptr c.renew.ensures.0 _
    c.unlink.ensures.list c.unlink.ensures.nodes c.link_front.ensures.list c.link_front.ensures.nodes c.renew.ensures.1 c.renew.ensures.2 refl refl
    es xs may.kept may.member g.K.PartialEq.eq (exact_key g.K.PartialEq.eq g.K.Ord.cmp g.met.K.Eq.laws g.met.K.Ord.matches_eq g.met.K.Key.exact) h c.args.tick key refl
