use Rattle.std.proofs.Common.{refl}
use Rattle.rm_reply.specs.Answered.{IsNextBinding}
use Rattle.rm_reply.proofs.NameLemmas.{last_names}
use Rattle.rm_reply.proofs.ReplyLemmas.{put_these}
use Rattle.rm_reply.proofs.reply.repeat_listed.Goals as goal

pub returns : goal.returns
returns g c settings journal stands later askable m list asked drafted_so =
    let these = last_names m.bindings c.put_names.new.names c.args.from c.count.result c.args.from (c.put_names.ensures.names m asked) refl (c.count.ensures m asked) in
    put_these (IsNextBinding (g.G.Group.cells settings journal c.args.now)) c.put_names.new.names c.args.most m list c.repeat.new.draft c.args.from these
    (c.repeat.ensures settings journal stands later askable m list drafted_so)
