use Rattle.std.proofs.Common.{◌≡◌, arith, get_or}
use Rattle.rm_status.specs.declared.row.Row.{Row}
use Rattle.rm_status.specs.Change.{changed_row}
use Rattle.rm_status.proofs.Loops.{one_more}
use Rattle.rm_status.proofs.controls.each.change_rows.Goals as goal

pub loop-row-preserved : goal.loop-row-preserved
loop-row-preserved g c =
    let change = g.V.Change.changed c.args.how.now in
    let k = c.loop-row.row-index in
    let x = get_or c.loop-row.rows k c.row-item.result in
    let y : Row g.row.C.Denot = record { index = x.index; state = x.state; columns = c.change.new.columns } in
    let e : y ≡ changed_row change x = λ i. record { index = x.index; state = x.state; columns = c.change.ensures i } in
    one_more (changed_row change) c.args.rows.now c.loop-row.rows k c.row-item.result y c.loop-row.invariant (omega arith) e
