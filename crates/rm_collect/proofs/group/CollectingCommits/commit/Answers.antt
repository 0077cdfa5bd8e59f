use Rattle.rm_collect.proofs.Turning.{whole_stands}
use Rattle.rm_collect.proofs.group.CollectingCommits.commit.Goals as goal

pub returns-clause-stands : goal.returns-clause-stands
returns-clause-stands g c settings journal values stands later askable gives =
    let begun = c.assign.ensures.begun settings journal values stands later gives in
    whole_stands g.P.Columns.ControlRow.form g.P.Collected.collection settings c.args.now values journal
    (g.met.P.ByItself.by_itself.whole settings c.args.now values journal) c.assign.new.self
    (g.met.P.ByItself.by_itself.lasting settings c.args.now values journal c.assign.new.self.shared begun.suits) begun
