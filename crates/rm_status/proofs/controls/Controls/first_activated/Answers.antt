use Rattle.std.proofs.Common.{arith, below_more, sym}
use Rattle.rm_status.specs.Rows.{rows_before}
use Rattle.rm_status.proofs.Valid.{none_activated}
use Rattle.rm_status.proofs.controls.Controls.first_activated.Goals as goal

pub loop-place-preserved : goal.loop-place-preserved
loop-place-preserved g c = below_more _ _ c.loop-place.invariant (sym c.if-activates.ensures)

pub returns-clause-none : goal.returns-clause-none
returns-clause-none g c =
    let C = g.C.ControlRow.form in
    none_activated C.table (rows_before C.table C.set_to c.args.self.now) (g.A.Assigns.bindings c.args.set.now) (λ k under. c.loop-place.invariant k (omega (arith, under, c.count-place-end.ensures.value)))
