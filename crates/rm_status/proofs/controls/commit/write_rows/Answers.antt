use Rattle.std.proofs.Common.{◌≡◌, arith, get_or}
use Rattle.rm_status.specs.declared.row.Row.{Row}
use Rattle.rm_status.specs.Commit.{write_row}
use Rattle.rm_status.proofs.Loops.{one_more}
use Rattle.rm_status.proofs.controls.commit.write_rows.Goals as goal

pub loop-row-preserved : goal.loop-row-preserved
loop-row-preserved g c =
    let C = g.C.ControlRow.form in
    let bs = g.A.Assigns.bindings c.args.set.now in
    let k = c.loop-row.row-index in
    let x = get_or c.loop-row.rows k c.row-item.result in
    let y : Row g.row.C.Denot = record { index = x.index; state = x.state; columns = c.put_all.new.columns } in
    let e : y ≡ write_row C.table C.with_column C.blank bs x = λ i. record { index = x.index; state = x.state; columns = c.put_all.ensures i } in
    one_more (write_row C.table C.with_column C.blank bs) c.args.rows.now c.loop-row.rows k c.row-item.result y c.loop-row.invariant (omega arith) e
