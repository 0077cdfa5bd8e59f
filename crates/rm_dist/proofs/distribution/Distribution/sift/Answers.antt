use Rattle.rm_dist.proofs.SetLemmas.{sifted_rows, tallies_sifted}
use Rattle.rm_dist.proofs.distribution.Distribution.sift.Goals as goal

pub returns-clause-stands : goal.returns-clause-stands
returns-clause-stands c settings journal directory begun = record {
  rows = sifted_rows settings c.protocols.result.now c.args.self.now.rows c.change_each.new.self c.change_each.ensures journal begun.rows;
  tallies = tallies_sifted settings c.protocols.result.now c.args.self.now.rows c.change_each.new.self c.change_each.ensures journal (c.protocols.ensures.active journal directory) begun.tallies;
}
