use Rattle.rm_status.proofs.RowEdits.{after_none, after_some}
use Rattle.rm_status.proofs.controls.Controls.after.Goals as goal

pub returns-in-None-clause-least : goal.returns-in-None-clause-least
returns-in-None-clause-least g c = after_none c.args.index c.args.self.now c.in-None.ensures

pub returns-in-Some-clause-least : goal.returns-in-Some-clause-least
returns-in-Some-clause-least g c = rw (← c.self.view_is) (after_some c.args.index c.in-Some.row.now c.self.inside.rows.items c.self.invariant.0 (rw c.self.view_is c.in-Some.ensures))
