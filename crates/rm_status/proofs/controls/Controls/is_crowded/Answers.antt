use Rattle.rm_status.proofs.Crowds.{crowded_by}
use Rattle.rm_status.proofs.controls.Controls.is_crowded.Goals as goal

pub returns : goal.returns
returns g c =
    let C = g.C.ControlRow.form in
    let bs = g.A.Assigns.bindings c.args.set.now in
    crowded_by C.table C.set_to bs c.self.inside.rows.items c.args.self.now c.self.view_is c.self.invariant c.requires.fine _ _ _ c.most.ensures.value c.len.ensures.value c.count_made.ensures.value
