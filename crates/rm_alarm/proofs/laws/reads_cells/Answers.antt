use Rattle.rm_acts.proofs.RecurringLaws.{reads_cells}
use Rattle.rm_alarm.proofs.laws.reads_cells.Goals as goal

pub returns : goal.returns
returns g c settings = reads_cells g.G.Readable.sampleable settings g.met.G.Readable.recurring
