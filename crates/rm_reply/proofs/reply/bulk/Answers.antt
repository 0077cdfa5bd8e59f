use Rattle.std.proofs.Common.{drop, refl, [], ap, take}
use Rattle.rm_reply.specs.Replies.{counting, names_of}
use Rattle.rm_reply.specs.Answered.{IsNextBinding}
use Rattle.rm_reply.proofs.BulkLemmas.{next_one}
use Rattle.rm_reply.proofs.ReplyLemmas.{begun, bulk_stops, bulk_repeats}
use Rattle.rm_reply.proofs.reply.bulk.Goals as goal

pub returns-in_default : goal.returns-in_default
returns-in_default g c settings journal stands later askable m asked =
    let cells = g.G.Group.cells settings journal c.args.now in
    let names = take c.non_repeaters-fixed.result (names_of m.bindings) in
    let first = ap (λ n. take n (names_of m.bindings)) (c.non_repeaters-fixed.ensures m asked) in
    bulk_stops (IsNextBinding cells) (next_one cells) c.bindings_lengthen.ensures names m c.put_asked.new.draft first
    (c.in_default.ensures settings journal stands later askable m [] asked (begun m c.begin-draft.result (c.begin-draft.ensures.response m asked) (c.begin-draft.ensures.fits m asked)))

pub returns : goal.returns
returns g c settings journal stands later askable m asked =
    let cells = g.G.Group.cells settings journal c.args.now in
    let names = take c.non_repeaters-fixed.result (names_of m.bindings) in
    let first = ap (λ n. take n (names_of m.bindings)) (c.non_repeaters-fixed.ensures m asked) in
    let others = ap (λ n. drop n (names_of m.bindings)) (c.non_repeaters-fixed.ensures m asked) in
    let puts = c.in-Ok.ensures settings journal stands later askable m [] asked (begun m c.begin-draft.result (c.begin-draft.ensures.response m asked) (c.begin-draft.ensures.fits m asked)) in
    bulk_repeats (IsNextBinding cells) names (drop c.non_repeaters-fixed.result (names_of m.bindings)) (counting m.second) m c.put_asked.new.draft c.repeat_asked.new.draft first others
    refl puts (c.repeat_asked.ensures settings journal stands later askable m puts.answers asked puts.is_drafted)
