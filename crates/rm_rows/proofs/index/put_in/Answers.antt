use Rattle.rm_rows.proofs.MoveLemmas.{put_kept, put_rows}
use Rattle.rm_rows.proofs.index.put_in.Goals as goal

pub returns-clause-kept : goal.returns-clause-kept
returns-clause-kept g c =
    rw (c.insert.ensures.items, c.in-Ok-insert.is, c.push_back.ensures.items, c.in-Ok.is)
    (put_kept g.K.Ord.cmp g.met.K.Ord.total c.args.list.now c.link_front.new.self c.args.ptr c.link_front.ensures.list c.link_front.ensures.nodes
    c.args.entered.now.items c.args.index.now.items c.args.place c.requires.loose c.requires.fits)

pub returns-clause-rows : goal.returns-clause-rows
returns-clause-rows g c =
    λ row e. rw (c.push_back.ensures.items, c.in-Ok.is)
    (put_rows g.K.Ord.cmp g.met.K.Ord.total c.args.list.now c.link_front.new.self c.args.ptr c.link_front.ensures.list c.link_front.ensures.nodes c.args.entered.now.items c.args.index.now.items row e)
