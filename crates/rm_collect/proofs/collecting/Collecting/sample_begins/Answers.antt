use Rattle.rm_collect.specs.Sampled.{stands_sampled}
use Rattle.rm_collect.proofs.collecting.Collecting.sample_begins.Goals as goal

pub returns : goal.returns
returns g c settings earlier alarm reading stands later =
    stands_sampled g.P.Columns.ControlRow.form g.P.Collected.collection g.met.P.Collected.laws settings earlier c.args.moment alarm reading later c.args.self.now stands
