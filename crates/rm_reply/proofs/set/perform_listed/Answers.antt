use Rattle.rm_model.specs.Readings.{nothing_read}
use Rattle.rm_reply.specs.Sets.{alone_among}
use Rattle.rm_reply.proofs.SetLemmas.{judges_asked, within_asked}
use Rattle.rm_reply.proofs.set.perform_listed.Goals as goal

pub returns-clause-judged : goal.returns-clause-judged
returns-clause-judged g c m asked settings journal stands later askable =
    let (after, stood, judges) = c.perform.ensures.judged settings journal stands later askable in (
      after,
      stood,
      judges_asked (alone_among g.G.Objects.objects g.G.Group.alone) (g.G.Group.together settings journal c.args.now nothing_read) (g.G.Stores.reserves settings journal) c.args.now journal m c.give.new.given c.perform.result after
          (c.give.ensures m asked) judges,
    )

pub returns-clause-within : goal.returns-clause-within
returns-clause-within g c =
    let (m, asked, few, room) = c.requires.asked in
    within_asked m c.give.new.given c.perform.result (c.give.ensures m asked) few c.perform.ensures.within
