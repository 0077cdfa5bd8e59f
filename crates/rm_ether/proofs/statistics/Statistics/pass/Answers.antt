use Rattle.rm_ether.proofs.Sums.{still_bounded}
use Rattle.rm_ether.proofs.statistics.Statistics.pass.Goals as goal

pub returns-then-adding-source-clause-bounded : goal.returns-then-adding-source-clause-bounded
returns-then-adding-source-clause-bounded c =
    let adding = c.args.adding.now in
    rw c.add.ensures (rw adding.worked_out (still_bounded adding.facts.now c.requires.length c.args.self.now c.requires.room c.requires.bounded))
