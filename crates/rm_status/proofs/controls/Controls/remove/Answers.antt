use Rattle.std.proofs.Common.{arith}
use Rattle.rm_status.proofs.RowCalls.{removed, not_removed}
use Rattle.rm_status.proofs.controls.Controls.remove.Goals as goal

pub invariant_of-self : goal.invariant_of-self
invariant_of-self g c =
    (removed g.C.ControlRow.form.table c.self.inside.rows.items c.args.self.now c.remove.new.self.items c.args.index c.place-place.result c.self.view_is c.place-place.ensures c.remove.ensures.items c.self.invariant).0

pub returns-then-place-len : goal.returns-then-place-len
returns-then-place-len g c =
    (removed g.C.ControlRow.form.table c.self.inside.rows.items c.args.self.now c.remove.new.self.items c.args.index c.place-place.result c.self.view_is c.place-place.ensures c.remove.ensures.items c.self.invariant).1

pub returns-else-place-len : goal.returns-else-place-len
returns-else-place-len g c = not_removed c.self.inside.rows.items c.args.self.now c.args.index c.place-place.result c.self.view_is c.place-place.ensures (omega (arith, c.len.ensures.value))
