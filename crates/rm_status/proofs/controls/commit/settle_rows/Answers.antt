use Rattle.std.proofs.Common.{◌≡◌, ◌≤◌, ◌<◌, ◌-◌, arith, ◌∙◌, length, get_or}
use Rattle.rm_status.specs.Commit.{settle_row}
use Rattle.rm_status.proofs.Loops.{one_kept}
use Rattle.rm_status.proofs.Settles.{settle_kept}
use Rattle.rm_status.proofs.controls.commit.settle_rows.Goals as goal

pub loop-place-preserved : goal.loop-place-preserved
loop-place-preserved g c =
    let C = g.C.ControlRow.form in
    let bs = g.A.Assigns.bindings c.args.set.now in
    let x = c.index-as_slice-place.result in
    let p = c.loop-place.place in
    let init = c.args.rows.now.items in
    let fits : p ≤ length init = c.loop-place.invariant.0 in
    let some : 0 < p = omega arith in
    let less : p - 1 ≤ length init = omega (arith, fits) in
    let seen : x ≡ get_or c.loop-place.rows.items (p - 1) x = rw (← c.as_slice.ensures.value) c.index-as_slice-place.is in
    let e = settle_kept C.table C.with_column C.blank bs x c.set_ask-asked.result c.next_state-next.result c.set_ask-asked.ensures c.next_state-next.ensures c.in_default.not-Absent in
    (less, c.set_state.ensures ∙ one_kept (settle_row C.table C.with_column C.blank bs) init c.loop-place.rows.items p x c.loop-place.invariant.1 some fits seen c.next_state-next.result e)
