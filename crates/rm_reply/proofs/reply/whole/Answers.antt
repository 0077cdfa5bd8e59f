use Rattle.std.proofs.Common.{[]}
use Rattle.rm_reply.specs.Drafting.{IsFound}
use Rattle.rm_reply.proofs.ReplyLemmas.{begun, whole_fits, whole_stops}
use Rattle.rm_reply.proofs.SomeAnswers.{found_some}
use Rattle.rm_reply.proofs.reply.whole.Goals as goal

pub returns-in-Ok : goal.returns-in-Ok
returns-in-Ok g c settings journal stands later askable m asked =
    whole_fits (IsFound (g.G.Group.cells settings journal c.args.now) g.G.Objects.objects c.args.lookup) m c.count.result c.put_asked.new.draft (c.count.ensures m asked)
    (c.in-Ok.ensures settings journal stands later askable m [] asked (begun m c.begin-draft.result (c.begin-draft.ensures.response m asked) (c.begin-draft.ensures.fits m asked)))

pub returns-in-Err : goal.returns-in-Err
returns-in-Err g c settings journal stands later askable m asked =
    let cells = g.G.Group.cells settings journal c.args.now in
    let finds = c.next_or_none.ensures cells (c.cells_are_finite.ensures settings journal c.args.now) in
    whole_stops (IsFound cells g.G.Objects.objects c.args.lookup) (found_some cells g.G.Objects.objects finds c.args.lookup) c.bindings_lengthen.ensures m c.count.result c.put_asked.new.draft c.begin.result (c.count.ensures m asked)
    (c.in-Err.ensures settings journal stands later askable m [] asked (begun m c.begin-draft.result (c.begin-draft.ensures.response m asked) (c.begin-draft.ensures.fits m asked)))
    (c.begin.ensures.response m asked)
