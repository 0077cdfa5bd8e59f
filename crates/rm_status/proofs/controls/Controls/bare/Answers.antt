use Rattle.rm_status.proofs.Bares.{are_rows}
use Rattle.rm_status.proofs.controls.Controls.bare.Goals as goal

pub invariant_of-result : goal.invariant_of-result
invariant_of-result g c =
    are_rows g.C.ControlRow.form.set_to g.C.ControlRow.form.table c.self.inside.rows.items c.bare_rows.result.items c.bare_rows.ensures c.self.invariant
