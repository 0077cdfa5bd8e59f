use Rattle.rm_status.proofs.RowFacts.{found_fits}
use Rattle.rm_status.proofs.controls.Controls.row.Goals as goal

pub returns-clause-index : goal.returns-clause-index
returns-clause-index g c = found_fits g.C.ControlRow.form.table c.args.self.now c.args.index c.find.result c.len.ensures.rows.1 c.find.ensures
